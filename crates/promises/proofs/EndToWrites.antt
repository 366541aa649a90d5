-- Writing the lists one after the other: where the conditions hold every call is accepted, and the records lie one behind the other.
use Prim.Native.Nat.{ℕ, ◌+◌, ◌*◌, ◌≤◌}
use mathlib.Core.Path.{◌≡◌, refl, sym, ap, subst, subst₂, ◌∙◌}
use mathlib.Core.List.{List, [], ◌∷◌, ◌++◌, append_assoc, map, flatten}
use native.Mathlib.Omega.{arith}
use lib.ListN.{length, take, drop, length-append, length-drop}
use lib.Seq.{take_at, drop_at, drop-drop}
use Rattle.paper.specs.Lists.{total}
use Rattle.paper.specs.Write.{write_answer, write_buffer, MeetsWrite}
use Rattle.paper.specs.declared.Written.{Written}
use Rattle.laws.proofs.Lists.{Each, each_wide}
use Rattle.meaning.proofs.Rising.{Ascends}
use Rattle.promises.proofs.IndexRows.{Inside, starts_from}
use Rattle.promises.proofs.WriteRows.{Writable, WriteAccepted}
use Rattle.promises.proofs.WriteBytes.{as_written_for}
use Rattle.promises.proofs.WriteAnswers.{passed, length_is, after_is, tells_number, tells_place}
use Rattle.promises.proofs.EndToRuns.{Plan, record_for, size_for, Wrote, starts_by, total_by, Packable}
use Rattle.promises.proofs.EndToRuns.Wrote.{done, next}

-- a list that can be written
abbrev pub Good : ℕ → Plan → Type 0
Good u p = (p.cut ≤ u) × Ascends u 0 p.slots

module _ (u B : ℕ) (u_inside : Inside 1 1048576 u) (b_inside : Inside 1 128 B) where
  -- all records, one behind the other
  abbrev records : List Plan → List (List ℕ)
  records plans = map (record_for B) plans

  -- What a run does, the first list going behind the bytes front, with back lent to it
  pub record Ran (at : ℕ) (plans : List Plan) (front back : List ℕ) (answers : List Written) (after : List ℕ) : Type 0 where
    -- every call accepts
    pub accepted : Each (λ (w : Written). (w.number ≡ 0) × (w.place ≡ 0)) answers
    -- the answers say how long the records are, and where they start
    pub size : total_by answers ≡ size_for B plans
    pub starts : starts_by at answers ≡ starts_from at (records plans)
    -- which lie there, and then what stood behind
    pub bytes : after ≡ front ++ (flatten (records plans) ++ drop (size_for B plans) back)

  -- one list
  module _ (p : Plan) (good : Good u p) where
    -- where its record has room, no row refuses it
    pub writable : (room : ℕ) → length (record_for B p) ≤ room → WriteAccepted u B p.cut p.slots room
    writable room l =
        record {
          writable = record { cuts = record { ranges = record { slots_within = u_inside; block_within = b_inside }; cut_within = good.0 }; rising = good.1 };
          bytes = record_for B p;
          is = as_written_for u B p.cut p.slots b_inside.0 good.0 good.1;
          fits = l;
        }

  -- so it is of every run in which the records have room
  pub ran : (plans : List Plan) (at : ℕ) (before front back : List ℕ) (answers : List Written) (after : List ℕ) → before ≡ front ++ back → length front ≡ at
      → Each (Good u) plans → size_for B plans ≤ length back → Wrote u B at plans before answers after → Ran at plans front back answers after
  unfolding total flatten
  ran [] at before front back answers after is n good l done = record { accepted = tt; size = refl; starts = refl; bytes = is }
  ran (p ∷ plans) at before front back answers after is n good l (next {part = part} {answer = answer} {answers = more} m w) =
      let r = record_for B p in
      let back_is : drop at before ≡ back = ap (drop at) is ∙ drop_at front back at n in
      let front_is : take at before ≡ front = ap (take at) is ∙ take_at front back at n in
      let lent : MeetsWrite u B p.cut p.slots back answer part = subst (λ (b : List ℕ). MeetsWrite u B p.cut p.slots b answer part) back_is m in
      let a = writable p good.0 (length back) (omega arith) in
      let ok = tells_number u B p.cut p.slots back answer part lent a in
      let long : answer.length ≡ length r = length_is u B p.cut p.slots back answer part lent ok in
      let put : part ≡ r ++ drop (length r) back = after_is u B p.cut p.slots back answer part lent ok in
      let d = length-drop (length r) back in
      let f = length-append front r in
      let now : take at before ++ part ≡ front ++ r ++ drop (length r) back = rw (front_is, put) (sym (append_assoc front r (drop (length r) back))) in
      let t = ran plans (at + answer.length) _ (front ++ r) (drop (length r) back) more after now (omega arith) good.1 (omega arith) w in
      record {
        accepted = ((ok, tells_place u B p.cut p.slots back answer part lent a), t.accepted);
        size = rw (long, t.size);
        starts = ap (λ (l : List ℕ). at ∷ l) (t.starts ∙ ap (λ (n : ℕ). starts_from (at + n) (records plans)) long);
        bytes = t.bytes ∙ rw (drop-drop, append_assoc, append_assoc);
      }

-- THE OTHER WAY ROUND: what is known where a caller sees every call accepted
module _ (u B : ℕ) where
  -- the lists could be written, and the answers say how long their records are
  record Seen (plans : List Plan) (answers : List Written) : Type 0 where
    lists : Each (λ (p : Plan). Writable u B p.cut p.slots) plans
    size : total_by answers ≡ size_for B plans

  seen : (plans : List Plan) (at : ℕ) (before : List ℕ) (answers : List Written) (after : List ℕ) → Each (λ (w : Written). w.number ≡ 0) answers
      → Wrote u B at plans before answers after → Seen plans answers
  unfolding total
  seen [] at before answers after ok done = record { lists = tt; size = refl }
  seen (p ∷ plans) at before answers after ok (next {part = part} {answer = answer} {answers = more} m w) =
      let t = seen plans (at + answer.length) (take at before ++ part) more after ok.1 w in
      record {
        lists = ((passed u B p.cut p.slots (drop at before) answer part m ok.0).writable, t.lists);
        size = rw (length_is u B p.cut p.slots (drop at before) answer part m ok.0, t.size);
      }

  -- so the conditions hold, where the index is to be neither too long nor without room
  pub seen_packable : (plans : List Plan) (before : List ℕ) (answers : List Written) (after : List ℕ) → Wrote u B 0 plans before answers after
      → Each (λ (w : Written). w.number ≡ 0) answers → Inside 1 4096 (length plans) → total_by answers + 4 * length plans + 24 ≤ 16777216
      → total_by answers + 4 * length plans + 24 ≤ length before → Packable u B plans (length before)
  seen_packable [] before answers after w ok k s f = absurd (omega (arith, k.0))
  seen_packable (p ∷ plans) before answers after w ok k s f =
      let t = seen (p ∷ plans) 0 before answers after ok w in
      let e = t.size in
      let ranges = t.lists.0.cuts.ranges in
      record {
        u_inside = ranges.slots_within;
        b_inside = ranges.block_within;
        k_inside = k;
        cuts = each_wide _ (λ (p : Plan). p.cut ≤ u) (λ p a. a.cuts.cut_within) (p ∷ plans) t.lists;
        rising = each_wide _ (λ (p : Plan). Ascends u 0 p.slots) (λ p a. a.rising) (p ∷ plans) t.lists;
        small = omega arith;
        fits = omega arith;
      }

  -- ONE RUN: there is one, whatever the lists and the buffer
  pub some_run : (plans : List Plan) (at : ℕ) (before : List ℕ) → (answers : List Written) × (after : List ℕ) × Wrote u B at plans before answers after
  some_run [] at before = ([], before, done)
  some_run (p ∷ plans) at before =
      let a = write_answer u B p.cut p.slots (length (drop at before)) in
      let part = write_buffer u B p.cut p.slots (drop at before) in
      let t = some_run plans (at + a.length) (take at before ++ part) in
      (a ∷ t.0, t.1, next (record { answers = refl; leaves = refl }) t.2)

  -- and no other
  pub one_run : (plans : List Plan) (at : ℕ) (before : List ℕ) (some others : List Written) (xs ys : List ℕ) → Wrote u B at plans before some xs
      → Wrote u B at plans before others ys → (some ≡ others) × (xs ≡ ys)
  one_run [] at before some others xs ys done done = (refl, refl)
  one_run (p ∷ plans) at before some others xs ys (next {part = part} {answer = answer} {answers = more} m w)
      (next {part = part'} {answer = answer'} {answers = more'} n v) =
      let e : answer' ≡ answer = n.answers ∙ sym m.answers in
      let f : part' ≡ part = n.leaves ∙ sym m.leaves in
      let v' = subst₂ (λ (a : Written) (b : List ℕ). Wrote u B (at + a.length) plans (take at before ++ b) more' ys) e f v in
      let t = one_run plans (at + answer.length) (take at before ++ part) more more' xs ys w v' in
      (rw (e, t.0), t.1)
