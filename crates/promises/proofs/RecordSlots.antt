-- Which slots an accepted record holds, by its bytes and not by how they are read: a slot above the cut is a block's first slot, or comes
-- from it by the codes that stand at the block's offset; a slot up to the cut has its bit set.
use Prim.Native.Nat.{ℕ, suc, ◌+◌, ◌-◌, ◌*◌, ◌≤◌, ◌<◌, min}
use mathlib.Core.Path.{◌≡◌, refl, sym, ap, subst, ◌∙◌}
use mathlib.Core.Logic.{◌↔◌}
use mathlib.Core.Bool.{Bool, true, false, true≢false}
use mathlib.Core.List.{List, [], ◌∷◌, ◌++◌, append_assoc, flatten}
use native.Mathlib.Nat.{suc-mul, zero-mul}
use native.Mathlib.Decide.{dec_le, ℕ_discrete}
use native.Mathlib.Omega.{arith}
use lib.ListN.{length, get_or, take, drop, length-append}
use lib.Seq.{split_at, length-take-le, drop_at}
use Rattle.paper.specs.Lists.{has, last_of}
use Rattle.paper.specs.Bytes.{u32_bytes}
use Rattle.paper.specs.Code.{code_of, code_bytes}
use Rattle.paper.specs.Code.Code.{code}
use Rattle.paper.specs.Tail.{first_slot, offset_of}
use Rattle.paper.specs.Record.{cut_of, bit_length, bits_of, bit_at, tail_of, record_fault}
use Rattle.paper.specs.Held.{contents}
use Rattle.paper.specs.Write.{bit_bytes, gap_codes, block_codes, skip_entries}
use Rattle.laws.proofs.Lists.{has_here, has_there, has_joined, has_none, in_front, in_behind}
use Rattle.laws.proofs.Parts.{AllBytes, all_drop, join_4, all_take}
use Rattle.laws.proofs.Octets.{bits_at, bits_same}
use Rattle.laws.proofs.Codes.{code_read}
use Rattle.laws.proofs.Entries.{entry_first, entry_offset, entries_length}
use Rattle.meaning.proofs.Rising.{Ascends, rise_front, rise_back, has_low}
use Rattle.meaning.proofs.Sound.{contents_rise, tail_rise, has_tail, has_bit}
use Rattle.promises.proofs.RecordRows.{all_codes, Parts, codes_for, Small, led_to, Among, InTail, Holds}
use Rattle.promises.proofs.RecordRows.Holds.{by_bit, in_tail}
use Rattle.promises.proofs.WrittenBlocks.{Cut, Laid}
use Rattle.promises.proofs.RecordNumbers.{Accepted, accepted_is, parts_cut, parts_bits, in_parts, parts_laid}

-- Blocks around one of them
module _ (b : List ℕ) (bl₂ : List (List ℕ)) where
  entries_split : (a : ℕ) (bl₁ : List (List ℕ))
      → skip_entries a (bl₁ ++ b ∷ bl₂)
      ≡ skip_entries a bl₁
      ++ (u32_bytes (get_or b 0 0) ++ (u32_bytes (a + length (all_codes bl₁)) ++ skip_entries (a + length (all_codes bl₁) + length (block_codes b)) bl₂))
  unfolding skip_entries flatten
  entries_split a [] =
      let z : a + 0 ≡ a = omega arith in rw z (append_assoc (u32_bytes (get_or b 0 0)) (u32_bytes a) (skip_entries (a + length (block_codes b)) bl₂))
  entries_split a (c ∷ bl₁) =
      let l = length-append (block_codes c) (all_codes bl₁) in
      let z : a + length (block_codes c) + length (all_codes bl₁) ≡ a + length (block_codes c ++ all_codes bl₁) = omega arith in
      let r = rw z at (entries_split (a + length (block_codes c)) bl₁) in
      rw r (sym (append_assoc (u32_bytes (get_or c 0 0) ++ u32_bytes a) _ _))

  codes_split : (bl₁ : List (List ℕ)) → all_codes (bl₁ ++ b ∷ bl₂) ≡ all_codes bl₁ ++ (block_codes b ++ all_codes bl₂)
  unfolding flatten
  codes_split [] = refl
  codes_split (c ∷ bl₁) = rw (codes_split bl₁) (sym (append_assoc (block_codes c) (all_codes bl₁) (block_codes b ++ all_codes bl₂)))

  flat_split : (bl₁ : List (List ℕ)) → flatten (bl₁ ++ b ∷ bl₂) ≡ flatten bl₁ ++ (b ++ flatten bl₂)
  unfolding flatten
  flat_split [] = refl
  flat_split (c ∷ bl₁) = rw (flat_split bl₁) (sym (append_assoc c (flatten bl₁) (b ++ flatten bl₂)))

  rises_split : (u c : ℕ) (bl₁ : List (List ℕ)) → Ascends u c (flatten (bl₁ ++ b ∷ bl₂)) → Ascends u (last_of c (flatten bl₁)) b
  rises_split u c bl₁ a =
      rise_front u (last_of c (flatten bl₁)) b (flatten bl₂) (rise_back u c (flatten bl₁) (b ++ flatten bl₂) (rw (flat_split bl₁) at a))

  cut_split : (B n : ℕ) (bl₁ : List (List ℕ)) → Cut B n (bl₁ ++ b ∷ bl₂) → (1 ≤ n - length bl₁ * B) × (length b ≡ min B (n - length bl₁ * B))
  cut_split B n [] c = let z = zero-mul B in (omega (arith, c.0), omega (arith, c.1))
  cut_split B n (d ∷ bl₁) c =
      let r = cut_split B (n - B) bl₁ c.2 in
      let s = suc-mul (length bl₁) B in
      (omega (arith, r.0), omega (arith, r.1))

-- x stands in one of the blocks
record Found (x : ℕ) (bl : List (List ℕ)) : Type 0 where
  pub bl₁ : List (List ℕ)
  pub b : List ℕ
  pub bl₂ : List (List ℕ)
  pub is : bl ≡ bl₁ ++ b ∷ bl₂
  pub stands : has x b ≡ true

found : (x : ℕ) (bl : List (List ℕ)) → has x (flatten bl) ≡ true → Found x bl
unfolding flatten
found x [] h = absurd (true≢false (sym h ∙ has_none x))
found x (b ∷ bl) h = go (has x b) refl (λ e. found x bl e)
  where
    go : (t : Bool) → has x b ≡ t → (has x (flatten bl) ≡ true → Found x bl) → Found x (b ∷ bl)
    go true e rec = record { bl₁ = []; b = b; bl₂ = bl; is = refl; stands = e }
    go false e rec =
        let r = rec (sym (has_joined x b (flatten bl) ∙ rw e) ∙ h) in
        record { bl₁ = b ∷ r.bl₁; b = r.b; bl₂ = r.bl₂; is = ap (λ (t : List (List ℕ)). b ∷ t) r.is; stands = r.stands }

-- The codes of a block, from its first slot p to the slot x
record Gaps (p x : ℕ) (xs : List ℕ) : Type 0 where
  pub gaps : List ℕ
  pub rest : List ℕ
  pub coded : gap_codes p xs ≡ codes_for gaps ++ rest
  pub small : Small gaps
  pub fewer : length gaps ≤ length xs
  pub is : x ≡ led_to p gaps

gaps_none : (p x : ℕ) (xs : List ℕ) → x ≡ p → Gaps p x xs
unfolding flatten
gaps_none p x xs e = record { gaps = []; rest = gap_codes p xs; coded = refl; small = tt; fewer = omega arith; is = e }

gaps_step : (p x y : ℕ) (ys : List ℕ) → p < y → y ≤ 1048576 → Gaps y x ys → Gaps p x (y ∷ ys)
unfolding flatten gap_codes
gaps_step p x y ys l few g =
    let v = y - p - 1 in
    let v-is : p + v + 1 ≡ y = omega arith in
    let fw = g.fewer in
    record {
      gaps = v ∷ g.gaps;
      rest = g.rest;
      coded = rw g.coded (sym (append_assoc (code_bytes v) (codes_for g.gaps) g.rest));
      small = (omega arith, g.small);
      fewer = omega arith;
      is = rw v-is g.is;
    }

module _ (u : ℕ) (few : u ≤ 1048576) where
  gaps_to : (xs : List ℕ) (p x : ℕ) → Ascends u p xs → has x (p ∷ xs) ≡ true → Gaps p x xs
  gaps_to [] p x a h = go (ℕ_discrete x p)
    where
      go : Dec (x ≡ p) → Gaps p x []
      go (yes e) = gaps_none p x [] e
      go (no n) = absurd (true≢false (sym h ∙ has_there x p [] n ∙ has_none x))
  gaps_to (y ∷ ys) p x a h = go (ℕ_discrete x p) (λ e. gaps_to ys y x a.2 e)
    where
      go : Dec (x ≡ p) → (has x (y ∷ ys) ≡ true → Gaps y x ys) → Gaps p x (y ∷ ys)
      go (yes e) rec = gaps_none p x (y ∷ ys) e
      go (no n) rec = gaps_step p x y ys a.0 (omega arith) (rec (sym (has_there x p (y ∷ ys) n) ∙ h))

  -- and back: codes at the front of a block's lead to one of its slots
  same_code : (v w : ℕ) (r s : List ℕ) → v < 2097152 → w < 2097152 → code_bytes v ++ r ≡ code_bytes w ++ s → code v r ≡ code w s
  same_code v w r s lv lw e = sym (code_read v r lv) ∙ ap code_of e ∙ code_read w s lw

  led_in : (vs xs : List ℕ) (p : ℕ) (r s : List ℕ) → Ascends u p xs → Small vs → length vs ≤ length xs → gap_codes p xs ++ r ≡ codes_for vs ++ s
      → has (led_to p vs) (p ∷ xs) ≡ true
  unfolding flatten gap_codes
  led_in [] xs p r s a small l e = has_here p p xs refl
  led_in (v ∷ vs) [] p r s a small l e = absurd (omega arith)
  led_in (v ∷ vs) (y ∷ ys) p r s a small l e =
      let w = y - p - 1 in
      let c = same_code w v (gap_codes y ys ++ r) (codes_for vs ++ s) (omega arith) small.0
      (sym (append_assoc (code_bytes w) (gap_codes y ys) r) ∙ e ∙ append_assoc (code_bytes v) (codes_for vs) s) in
      let v-is : w ≡ v = cc in
      let t : gap_codes y ys ++ r ≡ codes_for vs ++ s = cc in
      let y-is : p + v + 1 ≡ y = omega arith in
      let rec = led_in vs ys y r s a.2 small.1 (omega arith) t in
      rw y-is (in_behind (led_to y vs) (p ∷ []) (y ∷ ys) rec)

two_words : (x a : ℕ) (r : List ℕ) → length (u32_bytes x ++ (u32_bytes a ++ r)) ≡ 8 + length r
unfolding u32_bytes
two_words x a r = omega arith

-- Slots that are laid: x stands among them exactly when an entry and codes lead to it
module _ (u B n c : ℕ) (es cs : List ℕ) (few : u ≤ 1048576) (short : length cs < 4294967296) where
  -- one way
  among_block : (x : ℕ) (bl₁ bl₂ : List (List ℕ)) (b : List ℕ) → Laid u B n c 0 es cs (bl₁ ++ b ∷ bl₂) → has x b ≡ true → Among B n es cs x
  unfolding block_codes
  among_block x bl₁ bl₂ [] l h = absurd (true≢false (sym h ∙ has_none x))
  among_block x bl₁ bl₂ (f ∷ xs) l h =
      let start = length (all_codes bl₁) in
      let up = rises_split (f ∷ xs) bl₂ u c bl₁ l.rising in
      let g = gaps_to u few xs f x up.2 h in
      let k = cut_split (f ∷ xs) bl₂ B n bl₁ l.cut in
      let k₀ = k.0 in
      let k₁ = k.1 in
      let fw = g.fewer in
      let more = skip_entries (start + length (gap_codes f xs)) bl₂ in
      let z : 0 + start ≡ start = omega arith in
      let laid-at = rw z at (entries_split (f ∷ xs) bl₂ 0 bl₁) in
      let size = ap length (l.coded ∙ codes_split (f ∷ xs) bl₂ bl₁) ∙ length-append (all_codes bl₁) (gap_codes f xs ++ all_codes bl₂) in
      record {
        j = length bl₁;
        first = f;
        start = start;
        others = skip_entries 0 bl₁;
        more = more;
        entry = l.entered ∙ laid-at ∙ sym (join_4 (skip_entries 0 bl₁) (u32_bytes f) (u32_bytes start) more);
        place = entries_length 0 bl₁;
        first_word = omega arith;
        start_word = omega arith;
        gaps = g.gaps;
        skipped = all_codes bl₁;
        rest = g.rest ++ all_codes bl₂;
        coded =
            l.coded ∙ codes_split (f ∷ xs) bl₂ bl₁
            ∙ rw g.coded (ap (λ (t : List ℕ). all_codes bl₁ ++ t) (append_assoc (codes_for g.gaps) g.rest (all_codes bl₂))
            ∙ sym (append_assoc (all_codes bl₁) (codes_for g.gaps) (g.rest ++ all_codes bl₂)));
        offset = refl;
        small = g.small;
        in_block = omega arith;
        in_tail = omega arith;
        is = g.is;
      }

  held_among : (bl : List (List ℕ)) (x : ℕ) → Laid u B n c 0 es cs bl → has x (flatten bl) ≡ true → Among B n es cs x
  held_among bl x l h =
      let f = found x bl h in
      among_block x f.bl₁ f.bl₂ f.b (rw f.is at l) f.stands

  -- the other way
  among_in : (x : ℕ) (bl₁ bl₂ : List (List ℕ)) (b : List ℕ) → Laid u B n c 0 es cs (bl₁ ++ b ∷ bl₂) → (m : Among B n es cs x) → length bl₁ ≡ m.j
      → has x b ≡ true
  unfolding block_codes
  among_in x bl₁ bl₂ [] l m e = absurd (let k = cut_split [] bl₂ B n bl₁ l.cut in let i = m.in_block in omega (arith, k.0, k.1))
  among_in x bl₁ bl₂ (f ∷ xs) l m e =
      let from = length (all_codes bl₁) in
      let up = rises_split (f ∷ xs) bl₂ u c bl₁ l.rising in
      let k = cut_split (f ∷ xs) bl₂ B n bl₁ l.cut in
      let j-is : m.j * B ≡ length bl₁ * B = ap (λ (i : ℕ). i * B) (sym e) in
      let in_block = m.in_block in
      let in_tail = m.in_tail in
      let es₂ = skip_entries (from + length (gap_codes f xs)) bl₂ in
      let z : 0 + from ≡ from = omega arith in
      let laid-at = rw z at (entries_split (f ∷ xs) bl₂ 0 bl₁) in
      let d₁ : drop (8 * m.j) es ≡ u32_bytes f ++ (u32_bytes from ++ es₂)
      = ap (drop (8 * m.j)) (l.entered ∙ laid-at)
      ∙ drop_at (skip_entries 0 bl₁) (u32_bytes f ++ (u32_bytes from ++ es₂)) (8 * m.j) (entries_length 0 bl₁ ∙ ap (λ (i : ℕ). 8 * i) e) in
      let d₂ : drop (8 * m.j) es ≡ u32_bytes m.first ++ (u32_bytes m.start ++ m.more)
      = ap (drop (8 * m.j)) (m.entry ∙ join_4 m.others (u32_bytes m.first) (u32_bytes m.start) m.more)
      ∙ drop_at m.others (u32_bytes m.first ++ (u32_bytes m.start ++ m.more)) (8 * m.j) m.place in
      let same = sym d₁ ∙ d₂ in
      let size = ap length (l.coded ∙ codes_split (f ∷ xs) bl₂ bl₁) ∙ length-append (all_codes bl₁) (gap_codes f xs ++ all_codes bl₂) in
      let first-is : f ≡ m.first
      = sym (entry_first f from es₂ (omega arith)) ∙ ap (λ (t : List ℕ). first_slot t 0) same ∙ entry_first m.first m.start m.more m.first_word in
      let start_is : from ≡ m.start
      = sym (entry_offset f from es₂ (omega arith)) ∙ ap (λ (t : List ℕ). offset_of t 0) same ∙ entry_offset m.first m.start m.more m.start_word in
      let c₁ : drop from cs ≡ gap_codes f xs ++ all_codes bl₂
      = ap (drop from) (l.coded ∙ codes_split (f ∷ xs) bl₂ bl₁) ∙ drop_at (all_codes bl₁) (gap_codes f xs ++ all_codes bl₂) from refl in
      let c₂ : drop from cs ≡ codes_for m.gaps ++ m.rest
      = ap (drop from) (m.coded ∙ append_assoc m.skipped (codes_for m.gaps) m.rest)
      ∙ drop_at m.skipped (codes_for m.gaps ++ m.rest) from (m.offset ∙ sym start_is) in
      let t = led_in u few m.gaps xs f (all_codes bl₂) m.rest up.2 m.small (omega (arith, k.0, k.1)) (sym c₁ ∙ c₂) in
      rw (m.is, ← first-is) t

  among_held : (bl : List (List ℕ)) (x : ℕ) → Laid u B n c 0 es cs bl → Among B n es cs x → has x (flatten bl) ≡ true
  among_held bl x l m =
      let b = get_or bl m.j [] in
      let size = ap length (m.entry ∙ join_4 m.others (u32_bytes m.first) (u32_bytes m.start) m.more)
      ∙ length-append m.others (u32_bytes m.first ++ (u32_bytes m.start ++ m.more)) in
      let eight = two_words m.first m.start m.more in
      let long = ap length l.entered ∙ entries_length 0 bl in
      let place = m.place in
      let in-range : m.j < length bl = omega arith in
      let e = split_at bl m.j [] in-range in
      let s = among_in x (take m.j bl) (drop (suc m.j) bl) b (subst (λ (t : List (List ℕ)). Laid u B n c 0 es cs t) e l) m
      (length-take-le m.j bl (omega arith)) in
      rw (ap flatten e ∙ flat_split b (drop (suc m.j) bl) (take m.j bl))
      (in_behind x (flatten (take m.j bl)) (b ++ flatten (drop (suc m.j) bl)) (in_front x b (flatten (drop (suc m.j) bl)) s))

-- An accepted record
module _ (u B : ℕ) (r : List ℕ) (all : AllBytes r) (pos : 1 ≤ B) (few : u ≤ 1048576) (long : 12 ≤ length r) (ok : record_fault u B (length r) r ≡ 0) where
  abbrev tail_slots : List ℕ
  tail_slots = flatten (tail_of u B r).blocks

  whole : Accepted u B r all pos few long
  whole = accepted_is u B r all pos few long ok

  slot_in_tail : (x : ℕ) → has x tail_slots ≡ true → InTail u B r x
  slot_in_tail x h =
      let p = whole.parts in
      let w = p.head.code_word in
      let size = p.codes_long in
      record { whole = in_parts p; among = held_among u B _ _ _ _ few (omega arith) (tail_of u B r).blocks x whole.laid h }

  in_tail_has : (x : ℕ) → InTail u B r x → has x tail_slots ≡ true
  in_tail_has x t =
      let p = t.whole in
      let w = p.parts.head.code_word in
      let size = p.parts.codes_long in
      among_held u B p.n p.c p.entries p.codes few (omega arith) (tail_of u B r).blocks x (parts_laid p.parts all ok) t.among

  rises_over : (x : ℕ) → has x tail_slots ≡ true → cut_of r < x
  rises_over x h = go (dec_le x (cut_of r))
    where
      go : Dec (x ≤ cut_of r) → cut_of r < x
      go (no g) = omega arith
      go (yes l) = absurd (true≢false (sym h ∙ has_low u (cut_of r) x tail_slots (tail_rise u B r pos ok) l))

  -- a slot above the cut is held exactly when an entry and codes lead to it
  pub tail_held : (x : ℕ) → ((has x (contents u B r) ≡ true) × (cut_of r < x)) ↔ InTail u B r x
  tail_held x = (
    λ t. slot_in_tail x (sym (has_tail u B r pos ok x t.1) ∙ t.0),
    λ t. let h = in_tail_has x t in let l = rises_over x h in (has_tail u B r pos ok x l ∙ h, l),
  )

  -- up to the cut it holds the slots whose bits the bytes of bits are written from
  pub bit_held : (c n L : ℕ) (bits entries codes : List ℕ) → Parts u B r c n L bits entries codes → (t : ℕ → Bool) → bits ≡ bit_bytes t 1 (length bits)
      → (x : ℕ) → 1 ≤ x → x ≤ c → has x (contents u B r) ≡ t x
  bit_held c n L bits entries codes p t e x i l =
      let c-is = parts_cut p in
      let b-is = parts_bits p in
      let room = p.bits_long in
      has_bit u B r pos ok x i (omega arith) ∙ rw (b-is, e) (bits_at t (length bits) x i (omega arith))

  -- both together
  pub record_held : (x : ℕ) → (has x (contents u B r) ≡ true) ↔ Holds u B r x
  record_held x = (go (dec_le x (cut_of r)) (dec_le 1 x), back)
    where
      go : Dec (x ≤ cut_of r) → Dec (1 ≤ x) → has x (contents u B r) ≡ true → Holds u B r x
      go (no g) d h = in_tail ((tail_held x).0 (h, omega arith))
      go (yes l) (no g) h =
          absurd (true≢false (sym h ∙ has_low u 0 x (contents u B r) (contents_rise u B r pos ok) (omega arith)))
      go (yes l) (yes i) h =
          let b = all_take (bit_length (cut_of r)) (drop 12 r) (all_drop 12 r all) in
          by_bit _ _ _ _ _ _ (bit_at (bits_of r)) whole.parts (bits_same (bits_of r) b) i l (sym (has_bit u B r pos ok x i l) ∙ h)

      back : Holds u B r x → has x (contents u B r) ≡ true
      back (by_bit c n L bits entries codes t p e i l h) = bit_held c n L bits entries codes p t e x i l ∙ h
      back (in_tail t) = ((tail_held x).1 t).0
