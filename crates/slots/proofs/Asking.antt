-- Asking: one law for each way out. What the tests on the way say, all refusals but 12 and then 12, is what the definition says.
use Prim.Native.Nat.{ℕ, ◌≤◌, ◌<◌}
use mathlib.Core.Path.{◌≡◌, refl, sym, ◌∙◌}
use mathlib.Core.List.{List}
use native.Mathlib.Decide.{ℕ_discrete}
use native.Mathlib.Omega.{arith}
use lib.ListN.{length}
use borrow.Author.Tests.{ne_eqb}
use Rattle.paper.specs.Lists.{total, up_from}
use Rattle.paper.specs.Refusal.{verdict, accepted, fault10, fault11, fault12, fault14}
use Rattle.paper.specs.Index.{k_of}
use Rattle.paper.specs.Look.{look}
use Rattle.paper.specs.Question.{smallest, charged_at, places}
use Rattle.paper.specs.Ask.{named, room_needed, ask_fault, ask_answer, ask_slice, MeetsAsk}
use Rattle.paper.specs.declared.Verdict.{Verdict}
use Rattle.paper.specs.Fault.{number_of}
use Rattle.paper.specs.declared.Answer.{Answer}
use Rattle.paper.specs.declared.refusal.Refusal.{Refusal}
use Rattle.laws.proofs.Frames.{or_first, or_second, or_both}
use Rattle.laws.proofs.Links.{link_bad, link_names, twelve_small, twelve}
use Rattle.laws.proofs.Questions.{Good, good_on, good_passed}
use Rattle.names.specs.Asked.{Asked}
use Rattle.question.specs.Answered.{Answers}
use Rattle.slots.specs.Unroomed.{unroomed, refusal}
use Rattle.laws.proofs.Faults.{no_zero, passes, told_on}

-- before the room
module _ (bs : List ℕ) (way : ℕ) (names : List ℕ) where
  -- the index is refused
  pub index_refused : (r : Refusal) → verdict (number_of r.fault) r.place ≡ look bs → verdict (number_of r.fault) r.place ≡ unroomed bs way names
  unfolding unroomed
  index_refused r is = rw (← is) (sym (or_first _ _ (no_zero r.fault)))

  -- it is not, and the way and the names tell; cs is the index that looking has accepted
  pub names_tell : accepted ≡ look bs → (cs : List ℕ) → cs ≡ bs → (v : Verdict) → v ≡ fault14 way (fault10 names (fault11 (k_of cs) names accepted)) → v ≡ unroomed bs way names
  unfolding unroomed
  names_tell is cs same v e = e ∙ rw same (rw (← is) (sym (or_second accepted _ refl)))

-- all of these
pub ruleset questions = (index_refused, names_tell, passes, told_on)

-- a refusal for another reason than room stands, whatever the room
stays : (bs : List ℕ) (way : ℕ) (names : List ℕ) (size : ℕ) (v : Verdict) → v ≡ unroomed bs way names → ¬ (v.number ≡ 0) → Dec ((look bs).number ≡ 0)
    → ask_fault bs way names size ≡ v
unfolding ask_fault unroomed
stays bs way names size v is n (no g) = or_first _ _ g ∙ sym (is ∙ or_first _ _ g)
stays bs way names size v is n (yes z) = or_second _ _ z ∙ link_bad _ (link_names (k_of bs) way names) v (is ∙ or_second _ _ z) _ n

-- the answer
module _ (bs : List ℕ) (way : ℕ) (names before : List ℕ) where
  -- what refuses leaves all as it was
  refuses : (f : Verdict) → ask_fault bs way names (length before) ≡ f → ¬ (f.number ≡ 0) → MeetsAsk bs way names before (refusal f.number f.place) before
  unfolding ask_answer ask_slice total places charged_at up_from
  refuses f e n = record { answers = rw e (simp (ne_eqb _ _ n)); leaves = rw e (simp (ne_eqb _ _ n)) }

  -- what is accepted is answered
  accepts : ask_fault bs way names (length before) ≡ accepted → (r : Answer) (after : List ℕ) → Answers bs way names before r after → MeetsAsk bs way names before r after
  unfolding ask_answer ask_slice
  accepts e r after h =
      record {
        answers = rw e (rw (← h.count, ← h.looks, ← h.codes, ← h.looks16, ← h.codes16, ← h.number) (rw (h.number, h.place)));
        leaves = rw e h.slots;
      }

  -- refused for another reason than room
  pub question_refused : (f : Refusal) → verdict (number_of f.fault) f.place ≡ unroomed bs way names → (r : Answer) → r ≡ refusal (number_of f.fault) f.place → MeetsAsk bs way names before r before
  question_refused f is r e = rw e (refuses _ (stays bs way names (length before) _ is (no_zero f.fault) (ℕ_discrete (look bs).number 0)) (no_zero f.fault))

  module _ (is : accepted ≡ unroomed bs way names) where
    both : ((look bs).number ≡ 0) × Good (k_of bs) way names
    unfolding unroomed
    both = let p = or_both _ _ (passes _ is) in (p.0, (good_passed (k_of bs) way names accepted p.1).0)

    -- the index is accepted
    pub question_looked : (look bs).number ≡ 0
    question_looked = both.0

    to_room : ask_fault bs way names (length before) ≡ fault12 (length before) (room_needed bs way names) accepted
    unfolding ask_fault
    to_room = or_second _ _ both.0 ∙ good_on (k_of bs) way names _ both.1

    -- cs is the index that looking has accepted
    module _ (cs : List ℕ) (same : cs ≡ bs) where
      -- not refused: the question can be answered
      pub asked : Asked cs names
      asked = let g = both.1 in rw same (record { looked = both.0; some = g.some; few = g.few; below = g.below })

      -- and ds and ns are the index and the names of the question that can be
      module _ (ds ns : List ℕ) (isD : ds ≡ cs) (isN : ns ≡ names) where
        module _ (need : ℕ) (least : need ≡ smallest (named ds ns)) where
          need_is : need ≡ room_needed bs way names
          unfolding room_needed
          need_is = least ∙ rw (isD, same, isN)

          -- but there is no room
          pub no_room : length before < need → (r : Answer) → r ≡ refusal 12 need → MeetsAsk bs way names before r before
          no_room l r e = rw e (refuses (verdict 12 need) (to_room ∙ rw (← need_is) (sym (twelve_small accepted _ need l))) (λ e. omega arith))

          -- there is, and it is answered
          pub answered : need ≤ length before → (w : ℕ) → w ≡ way → (r : Answer) (after : List ℕ) → Answers ds w ns before r after → MeetsAsk bs way names before r after
          answered l w isW r after h =
              accepts (to_room ∙ rw (← need_is) (sym (twelve accepted _ need l accepted refl))) r after (rw (isD, same, isN, isW) at h)

-- all of these
pub ruleset askings = (question_refused, question_looked, asked, no_room, answered)
