-- A whole tail, read against what is written: slots in blocks, the sizes of what is written, and the reader of the tail.
use Prim.Native.Nat.{ℕ, zero, suc, ◌+◌, ◌-◌, ◌*◌, ◌≤◌, ◌<◌, min}
use mathlib.Core.Path.{◌≡◌, refl, sym, ap, subst, ◌∙◌}
use mathlib.Core.List.{List, [], ◌∷◌, ◌++◌, append-nil, flatten, append_assoc}
use native.Mathlib.Decide.{dec_le, ℕ_discrete}
use native.Mathlib.Omega.{arith}
use lib.ListN.{length, take, drop, length-append, length-take, length-drop, drop_of_length-le}
use lib.Seq.{take_at, drop_at, take_all}
use Rattle.paper.specs.Lists.{last_of}
use Rattle.paper.specs.Bytes.{u32_at, u32_bytes}
use Rattle.paper.specs.Code.{code_bytes}
use Rattle.paper.specs.Tail.{Tail, block_count, first_slot, offset_of, read_blocks, read_tail}
use Rattle.paper.specs.Write.{in_blocks, gap_codes, block_codes, skip_entries}
use Rattle.laws.proofs.Parts.{AllBytes, join_4, no_length, all_none, all_join}
use Rattle.laws.proofs.Words.{word_bound}
use Rattle.laws.proofs.Rounding.{RoundsUp, rounds_zero, rounds_some, rounds_less, rounds_pos}
use Rattle.laws.proofs.Codes.{gaps_few, all_code}
use Rattle.laws.proofs.Tails.{tail_offset, tail_blocks}
use Rattle.laws.proofs.Entries.{entry_offset, entry_is}
use Rattle.laws.proofs.Cutting.{blocks_less}
use Rattle.meaning.proofs.Rising.{Ascends, rise_front, rise_back}
use Rattle.promises.proofs.RecordRows.{AboveAll, all_codes, BlockFault, TailRefused}
use Rattle.promises.proofs.RecordRows.BlockFault.{back, beyond, low, high, inner}
use Rattle.promises.proofs.RecordRows.TailRefused.{offset, block}
use Rattle.promises.proofs.WrittenCodes.{codes_span}
use Rattle.promises.proofs.WrittenBlocks.{first_offset, Cut, Laid, Room, sound_tail, blocks_sound, laid_read}
use Rattle.promises.proofs.WrittenFaults.{blocks_told, blocks_refused}

-- Slots cut in blocks, and blocks joined
pub cut_length : (B n : ℕ) (bl : List (List ℕ)) → Cut B n bl → length (flatten bl) ≡ n
unfolding flatten
cut_length B n [] c = sym c
cut_length B n (b ∷ bl) c = let i = cut_length B (n - B) bl c.2 in rw length-append (omega arith)

module _ (B n : ℕ) (b r : List ℕ) (size : length b ≡ min B n) (rest : length r ≡ n - B) where
  front : Dec (B ≤ n) → take B (b ++ r) ≡ b
  front (yes l) = take_at b r B (omega arith)
  front (no g) = take_all B (b ++ r) (rw length-append (omega arith)) ∙ rw (no_length r (omega arith)) (append-nil b)

  behind : Dec (B ≤ n) → drop B (b ++ r) ≡ r
  behind (yes l) = drop_at b r B (omega arith)
  behind (no g) = drop_of_length-le (b ++ r) {i = B} (rw length-append (omega arith)) ∙ sym (no_length r (omega arith))

module _ (B : ℕ) where
  -- blocks of B are what their slots are cut into
  pub cut_blocks : (m n : ℕ) (bl : List (List ℕ)) → RoundsUp n B m → Cut B n bl → in_blocks B m (flatten bl) ≡ bl
  unfolding flatten in_blocks
  cut_blocks zero n [] r c = refl
  cut_blocks (suc m) n [] r c = absurd (let s = rounds_some n B m r in omega arith)
  cut_blocks zero n (b ∷ bl) r c = absurd (let s = rounds_zero n B r in let p = c.0 in omega arith)
  cut_blocks (suc m) n (b ∷ bl) r c =
      let l = cut_length B (n - B) bl c.2 in
      rw (front B n b (flatten bl) c.1 l (dec_le _ _), behind B n b (flatten bl) c.1 l (dec_le _ _))
      (ap (λ (t : List (List ℕ)). b ∷ t) (cut_blocks m (n - B) bl (rounds_less n B m r) c.2))

  -- and slots that are cut so are in blocks of B
  pub blocks_cut : (m : ℕ) (xs : List ℕ) → RoundsUp (length xs) B m → Cut B (length xs) (in_blocks B m xs)
  unfolding in_blocks
  blocks_cut zero xs r = rounds_zero (length xs) B r
  blocks_cut (suc m) xs r = (
    rounds_some (length xs) B m r,
    length-take B xs,
    subst (λ (k : ℕ). Cut B k (in_blocks B m (drop B xs))) (length-drop B xs) (blocks_cut m (drop B xs) (blocks_less B xs m r)),
  )

-- Sizes of what is written: three bytes at most for each code
length_of_block : (b : List ℕ) → length (block_codes b) ≤ 3 * length b
unfolding block_codes
length_of_block [] = omega arith
length_of_block (x ∷ xs) = let r = gaps_few x xs in omega arith

-- three bytes at most for each slot
pub codes_length : (bl : List (List ℕ)) → length (all_codes bl) ≤ 3 * length (flatten bl)
unfolding flatten
codes_length [] = omega arith
codes_length (b ∷ bl) =
    let r = codes_length bl in
    let c = length_of_block b in
    rw (length-append (block_codes b) (all_codes bl), length-append b (flatten bl)) (omega arith)

-- What is written is bytes
module _ (u : ℕ) (small : u ≤ 1048576) where
  all_gaps : (p : ℕ) (xs : List ℕ) → Ascends u p xs → AllBytes (gap_codes p xs)
  unfolding gap_codes
  all_gaps p [] a = all_none
  all_gaps p (x ∷ xs) a = all_join (code_bytes (x - p - 1)) (gap_codes x xs) (all_code (x - p - 1) (omega arith)) (all_gaps x xs a.2)

  all_block : (p : ℕ) (b : List ℕ) → Ascends u p b → AllBytes (block_codes b)
  unfolding block_codes
  all_block p [] a = all_none
  all_block p (x ∷ xs) a = all_gaps x xs a.2

  -- the codes of blocks that rise
  pub all_codes_bytes : (p : ℕ) (bl : List (List ℕ)) → Ascends u p (flatten bl) → AllBytes (all_codes bl)
  unfolding flatten
  all_codes_bytes p [] a = all_none
  all_codes_bytes p (b ∷ bl) a =
      all_join (block_codes b) (all_codes bl) (all_block p b (rise_front u p b (flatten bl) a)) (all_codes_bytes (last_of p b) bl (rise_back u p b (flatten bl) a))

-- the number of a block's row is 7 to 9
fault_span : {u B L : ℕ} {earlier : List ℕ} {left first start z : ℕ} {own : List ℕ} {f : ℕ} → BlockFault u B L earlier left first start z own f
    → (6 < f) × (f < 10)
fault_span (back l) = (omega arith, omega arith)
fault_span (beyond l) = (omega arith, omega arith)
fault_span (low l₁ l₂ l) = (omega arith, omega arith)
fault_span (high l₁ l₂ l) = (omega arith, omega arith)
fault_span (inner bytes r l₁ l₂ l₃ l₄ d i c) = let s = codes_span c in (omega (arith, s.0), s.1)

-- and so is that of a tail
pub tail_span : {u B c n L : ℕ} {es cs : List ℕ} {f : ℕ} → TailRefused u B c n L es cs f → (6 < f) × (f < 10)
tail_span (offset x start more e s o) = (omega arith, omega arith)
tail_span (block bl left first start z more own b ends w) = fault_span w

-- to be above the last of rising slots is to be above all of them
above_all : (u f c : ℕ) (xs : List ℕ) → Ascends u c xs → last_of c xs < f → AboveAll f (c ∷ xs)
above_all u f c [] a l = (l, tt)
above_all u f c (x ∷ xs) a l = let r = above_all u f x xs a.2 l in (omega (arith, a.0, r.0), r)

above_last : (f c : ℕ) (xs : List ℕ) → AboveAll f (c ∷ xs) → last_of c xs < f
above_last f c [] a = a.0
above_last f c (x ∷ xs) a = above_last f x xs a.1

-- a fault goes by the last slot before the block, or by all of them
module _ {u B L left first start z : ℕ} {own : List ℕ} (xs ys : List ℕ) (to : AboveAll first xs → AboveAll first ys)
    (from : AboveAll first ys → AboveAll first xs) where
  fault_over : {f : ℕ} → BlockFault u B L xs left first start z own f → BlockFault u B L ys left first start z own f
  fault_over (back l) = back l
  fault_over (beyond l) = beyond l
  fault_over (low l₁ l₂ l) = low l₁ l₂ (λ t. l (from t))
  fault_over (high l₁ l₂ l) = high l₁ l₂ l
  fault_over (inner bytes r l₁ l₂ l₃ l₄ d i c) = inner bytes r l₁ l₂ (to l₃) l₄ d i c

-- The entries and the codes of a tail have the lengths that a head says
pub record Fitted (B n L m : ℕ) (es cs : List ℕ) : Type 0 where
  pub count : RoundsUp n B m
  pub long : length es ≡ 8 * m
  pub size : length cs ≡ L
  pub no_codes : n ≡ 0 → L ≡ 0

no_codes_left : 0 + length (all_codes []) ≡ 0
unfolding flatten
no_codes_left = refl

nothing_zero : offset_of [] 0 ≡ 0
unfolding u32_at
nothing_zero = refl

module _ (u B c n L m : ℕ) (es cs : List ℕ) (m_is : block_count B n ≡ m) (fit : Fitted B n L m es cs) where
  abbrev here : Tail
  here = read_tail u B c n L es cs

  tail_zero : offset_of es 0 ≡ 0 → here ≡ read_blocks u B L m n c 0 es cs
  tail_zero o = tail_blocks u B c n L es cs o ∙ rw m_is

  room : AllBytes es → AllBytes cs → offset_of es 0 ≡ 0 → Room B L m n 0 es cs
  room all_es all_cs o =
      record {
        all_es = all_es;
        all_cs = all_cs;
        count = fit.count;
        long = fit.long;
        size = omega (arith, fit.size);
        start = λ h. sym o;
        done = λ z. let n₀ = rounds_zero n B (subst (λ (k : ℕ). RoundsUp n B k) z fit.count) in sym (fit.no_codes n₀);
      }

  -- accepted: laid as it is read
  pub tail_sound : AllBytes es → AllBytes cs → here.fault ≡ 0 → Laid u B n c 0 es cs here.blocks
  tail_sound all_es all_cs ok = go (ℕ_discrete _ _)
    where
      go : Dec (offset_of es 0 ≡ 0) → Laid u B n c 0 es cs here.blocks
      go (no o) = absurd (let f = rw (tail_offset u B c n L es cs o) at ok in omega arith)
      go (yes o) = rw (tail_zero o) (blocks_sound u B L (rounds_pos n B m fit.count) m n c 0 es cs (room all_es all_cs o) (rw (tail_zero o) at ok))

  module _ (small : u ≤ 1048576) (word : L < 4294967296) where
    zero_first : (bl : List (List ℕ)) (t : List ℕ) → es ≡ skip_entries 0 bl ++ t → (bl ≡ [] → offset_of t 0 ≡ 0) → offset_of es 0 ≡ 0
    zero_first bl t e h = rw e (first_offset 0 bl t (omega arith) h)

    -- laid: accepted, and read as it is laid
    pub tail_back : (bl : List (List ℕ)) → Laid u B n c 0 es cs bl → here ≡ sound_tail bl
    unfolding u32_at
    tail_back bl l =
        let e : es ≡ skip_entries 0 bl ++ [] = l.entered ∙ sym (append-nil (skip_entries 0 bl)) in
        tail_zero (zero_first bl [] e (λ q. refl)) ∙ laid_read u B L small word bl m n c 0 es cs fit.count (omega (arith, fit.size)) l

    -- what a row refuses the reader refuses, with that row's number
    pub tail_refused : (f : ℕ) → TailRefused u B c n L es cs f → here.fault ≡ f
    tail_refused f (offset x start more e s o) =
        let w = rw (← append_assoc (u32_bytes x) (u32_bytes start) more, ← e) at (entry_offset x start more s) in
        rw (tail_offset u B c n L es cs (λ z. o (sym w ∙ z)))
    tail_refused f (block bl left first start z more own b ends w) =
        let t = u32_bytes first ++ (u32_bytes start ++ more) in
        let e : es ≡ skip_entries 0 bl ++ t = b.entered ∙ join_4 (skip_entries 0 bl) (u32_bytes first) (u32_bytes start) more in
        let o = zero_first bl t e
        (λ q. let s : start ≡ 0 = b.start_is ∙ rw q no_codes_left in entry_offset first start more (omega arith) ∙ s) in
        let ys = flatten bl in
        let w₂ = fault_over (c ∷ ys) (last_of c ys ∷ []) (λ t. (above_last first c ys t, tt)) (λ t. above_all u first c ys b.rising t.0) w in
        rw (tail_zero o)
        (blocks_refused u B L small word bl m n c 0 left first start z es cs more own f fit.count (omega (arith, fit.size)) b ends w₂)

  -- what the reader refuses a row refuses
  pub tail_told : AllBytes es → AllBytes cs → ¬ (here.fault ≡ 0) → TailRefused u B c n L es cs here.fault
  tail_told all_es all_cs f = go (ℕ_discrete _ _)
    where
      some_entry : (k : ℕ) → length es ≡ 8 * k → ¬ (offset_of es 0 ≡ 0) → 8 ≤ length es
      some_entry zero l o = absurd (o (rw (no_length es l) nothing_zero))
      some_entry (suc k) l o = omega arith

      go : Dec (offset_of es 0 ≡ 0) → TailRefused u B c n L es cs here.fault
      go (no o) =
          let e = entry_is es all_es (some_entry m fit.long o) ∙ sym (append_assoc (u32_bytes (first_slot es 0)) (u32_bytes (offset_of es 0)) (drop 8 es)) in
          rw (tail_offset u B c n L es cs o) (offset (first_slot es 0) (offset_of es 0) (drop 8 es) e (word_bound es 4 all_es) o)
      go (yes o) =
          let r = blocks_told u B L m n c 0 es cs (room all_es all_cs o) (rw (tail_zero o) at f) in
          let x = r.first in
          let ys = flatten r.bl in
          let w = fault_over (last_of c ys ∷ []) (c ∷ ys) (λ t. above_all u x c ys r.before.rising t.0) (λ t. (above_last x c ys t, tt)) r.wrong in
          rw (tail_zero o) (block r.bl r.left r.first r.start r.z r.more r.own r.before r.ends w)
