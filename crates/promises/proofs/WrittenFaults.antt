-- The blocks of a tail, where they are refused: the number that the reader gives is the one whose row applies.
use Prim.Native.Nat.{ℕ, zero, suc, ◌+◌, ◌-◌, ◌≤◌, ◌<◌, min}
use mathlib.Core.Path.{◌≡◌, refl, sym, ap, subst, ◌∙◌}
use mathlib.Core.List.{List, [], ◌∷◌, ◌++◌, append_assoc, flatten}
use native.Mathlib.Decide.{dec_le, dec_lt, ℕ_discrete}
use native.Mathlib.Omega.{arith}
use lib.ListN.{length, take, drop, length-append, length-drop, take-append-drop}
use lib.Seq.{take_at}
use Rattle.paper.specs.Lists.{last_of}
use Rattle.paper.specs.Bytes.{u32_bytes}
use Rattle.paper.specs.Block.{read_codes}
use Rattle.paper.specs.Tail.{Tail, first_slot, offset_of, end_of, read_blocks}
use Rattle.paper.specs.Write.{gap_codes, block_codes, skip_entries}
use Rattle.laws.proofs.Lists.{last_join}
use Rattle.laws.proofs.Parts.{all_drop, join_4, all_take}
use Rattle.laws.proofs.Words.{word_bound}
use Rattle.laws.proofs.Rounding.{RoundsUp, rounds_zero, rounds_some, rounds_less, rounds_more, rounds_none, rounds_pos}
use Rattle.laws.proofs.Tails.{blocks_end, blocks_back, blocks_beyond, blocks_low, blocks_high, blocks_bad, BlockStep, block_step}
use Rattle.laws.proofs.Tails.BlockStep.{step_back, step_beyond, step_low, step_high, step_bad, step_next}
use Rattle.laws.proofs.Entries.{entry_first, entry_behind, entry_offset, entry_is, last_end, next_end}
use Rattle.meaning.proofs.Rising.{rise_join, rise_front, rise_back}
use Rattle.promises.proofs.RecordRows.{AboveAll, all_codes, Before, Ends, BlockFault}
use Rattle.promises.proofs.RecordRows.Ends.{at_last, at_next}
use Rattle.promises.proofs.RecordRows.BlockFault.{back, beyond, low, high, inner}
use Rattle.promises.proofs.WrittenCodes.{Coded, codes_sound, codes_told, codes_refused, codes_span}
use Rattle.promises.proofs.WrittenBlocks.{first_offset, Room, room_entry, room_own, room_next, block_read}

-- some block is the first that is wrong, of those with entries es and, from offset a on, codes cs
pub record BlocksRefused (u B L n prev a : ℕ) (es cs : List ℕ) (f : ℕ) : Type 0 where
  pub bl : List (List ℕ)
  pub left : ℕ
  pub first : ℕ
  pub start : ℕ
  pub z : ℕ
  pub more : List ℕ
  pub own : List ℕ
  pub before : Before u B prev n a es cs bl left first start more own
  pub ends : Ends B L left more z
  pub wrong : BlockFault u B L (last_of prev (flatten bl) ∷ []) left first start z own f

join_6 : (a b c d e f : List ℕ) → a ++ b ++ c ++ d ++ e ++ f ≡ a ++ (b ++ (c ++ d ++ e ++ f))
join_6 a b c d e f = simp append_assoc

-- a sound block before blocks of which one is wrong
later : (u B L n prev a first : ℕ) (slots own es es' cs cs' : List ℕ) (f : ℕ) → 1 ≤ B
    → es ≡ u32_bytes first ++ (u32_bytes a ++ es') → prev < first → first ≤ u → Coded u (min B n - 1) first slots own → cs ≡ own ++ cs'
    → BlocksRefused u B L (n - B) (last_of first slots) (a + length own) es' cs' f → BlocksRefused u B L n prev a es cs f
unfolding flatten skip_entries block_codes
later u B L n prev a first slots own es es' cs cs' f pos e l₃ l₄ c d r =
    let b = r.before in
    let c₁ = c.count in
    let c₂ = b.count in
    let c₃ = b.some in
    let own_is = c.codes in
    let entered = rw own_is at b.entered in
    let s = rw own_is at b.start_is in
    let es₂ = skip_entries (a + length (gap_codes first slots)) r.bl in
    record {
      bl = (first ∷ slots) ∷ r.bl;
      left = r.left;
      first = r.first;
      start = r.start;
      z = r.z;
      more = r.more;
      own = r.own;
      before = record {
        full = (omega arith, b.full);
        count = rw (length-append slots (flatten r.bl)) (omega arith);
        some = b.some;
        rising = (l₃, l₄, rise_join u first slots (flatten r.bl) c.rising b.rising);
        entered =
            e ∙ ap (λ (t : List ℕ). u32_bytes first ++ (u32_bytes a ++ t)) entered
            ∙ sym (join_6 (u32_bytes first) (u32_bytes a) es₂ (u32_bytes r.first) (u32_bytes r.start) r.more);
        coded = d ∙ rw (own_is, b.coded) (sym (append_assoc (gap_codes first slots) (all_codes r.bl) r.own));
        start_is = s ∙ rw (length-append (gap_codes first slots) (all_codes r.bl)) (omega arith);
        first_word = b.first_word;
      };
      ends = r.ends;
      wrong = rw (last_join first slots (flatten r.bl)) r.wrong;
    }

-- what the reader refuses a row refuses
module _ (u B L : ℕ) where
  abbrev Told : ℕ → Type 0
  Told k =
      (n prev a : ℕ) (es cs : List ℕ) → Room B L k n a es cs → ¬ ((read_blocks u B L k n prev a es cs).fault ≡ 0)
      → BlocksRefused u B L n prev a es cs (read_blocks u B L k n prev a es cs).fault

  module _ (k : ℕ) (rec : Told k) (n prev a : ℕ) (es cs : List ℕ) (r : Room B L (suc k) n a es cs) where
    abbrev first : ℕ
    first = first_slot es 0

    abbrev z : ℕ
    z = end_of L es k

    abbrev own : List ℕ
    own = take (z - a) cs

    ends_here : Dec (k ≡ 0) → Ends B L n (drop 8 es) z
    ends_here (yes i) =
        let l = rounds_zero (n - B) B (subst (λ (m : ℕ). RoundsUp (n - B) B m) i (rounds_less n B k r.count)) in
        rw (last_end L es k i) (at_last (omega arith))
    ends_here (no i) =
        let h : 1 ≤ k = omega arith in
        let k_is : k ≡ suc (k - 1) = omega arith in
        let l = rounds_some (n - B) B (k - 1) (subst (λ (m : ℕ). RoundsUp (n - B) B m) k_is (rounds_less n B k r.count)) in
        let long = r.long in
        let size : 8 ≤ length (drop 8 es) = rw length-drop (omega arith) in
        let t = drop 8 es in
        let e = entry_is t (all_drop 8 es r.all_es) size ∙ sym (append_assoc (u32_bytes (first_slot t 0)) (u32_bytes (offset_of t 0)) (drop 8 t)) in
        rw (next_end L es k h) (at_next (first_slot t 0) (offset_of t 0) (drop 8 t) (omega arith) (word_bound t 4 (all_drop 8 es r.all_es)) e)

    told_here : (f : ℕ) → BlockFault u B L (prev ∷ []) n first a z cs f → BlocksRefused u B L n prev a es cs f
    unfolding flatten skip_entries
    told_here f w =
        record {
          bl = [];
          left = n;
          first = first;
          start = a;
          z = z;
          more = drop 8 es;
          own = cs;
          before = record {
            full = tt;
            count = omega arith;
            some = rounds_some n B k r.count;
            rising = tt;
            entered = room_entry B L k n a es cs r ∙ sym (append_assoc (u32_bytes first) (u32_bytes a) (drop 8 es));
            coded = refl;
            start_is = omega arith;
            first_word = word_bound es 0 r.all_es;
          };
          ends = ends_here (ℕ_discrete _ _);
          wrong = w;
        }

    told_go : (t : Tail) → BlockStep u B L k n prev a es cs first z t → ¬ (t.fault ≡ 0) → BlocksRefused u B L n prev a es cs t.fault
    told_go t (step_back l) f = told_here 7 (back l)
    told_go t (step_beyond l₁ l) f = told_here 7 (beyond l)
    told_go t (step_low l₁ l₂ l) f = told_here 9 (low l₁ l₂ (λ t. let h = t.0 in omega arith))
    told_go t (step_high l₁ l₂ l₃ l) f = told_here 9 (high l₁ l₂ l)
    told_go t (step_bad l₁ l₂ l₃ l₄ g) f =
        told_here _
        (inner own (drop (z - a) cs) l₁ l₂ (l₃, tt) l₄ (sym (take-append-drop (z - a) cs)) (room_own B L (suc k) n a es cs r z l₁ l₂)
        (codes_told u (min B n - 1) first own (all_take (z - a) cs r.all_cs) g))
    told_go t (step_next l₁ l₂ l₃ l₄ ok) f =
        let c = codes_sound u (min B n - 1) first own (all_take (z - a) cs r.all_cs) ok in
        let w = rec (n - B) _ z (drop 8 es) (drop (z - a) cs) (room_next B L k n a es cs z r refl l₁ l₂) f in
        let e = room_entry B L k n a es cs r in
        later u B L n prev a first _ own es (drop 8 es) cs (drop (z - a) cs) _ (rounds_pos n B (suc k) r.count) e l₃ l₄ c
        (sym (take-append-drop (z - a) cs)) (rw (room_own B L (suc k) n a es cs r z l₁ l₂) w)

  -- any number of blocks
  pub blocks_told : (k : ℕ) → Told k
  blocks_told zero n prev a es cs r f = absurd (f (rw (blocks_end u B L n prev a es cs)))
  blocks_told (suc k) n prev a es cs r f =
      told_go k (blocks_told k) n prev a es cs r _ (block_step u B L k n prev a es cs (first_slot es 0) (end_of L es k) refl refl) f

-- what a row refuses the reader refuses, with that row's number
module _ (u B L : ℕ) (small : u ≤ 1048576) where
  -- the block at the front is wrong
  module _ (k n prev a first z : ℕ) (es cs more : List ℕ) (r : RoundsUp n B (suc k)) (word : first < 4294967296)
      (e : es ≡ u32_bytes first ++ (u32_bytes a ++ more)) where
    is_f : first ≡ first_slot es 0
    is_f = rw e (sym (entry_first first a more word))

    ends_is : (w : ℕ) → Ends B L n more w → w ≡ end_of L es k
    ends_is w (at_last l) =
        let i : n - B ≡ 0 = omega arith in
        sym (last_end L es k (rounds_none (n - B) B k i (rounds_less n B k r)))
    ends_is v (at_next x w t g s d) =
        let h = rounds_more (n - B) B k (omega arith) (rounds_less n B k r) in
        let b : drop 8 es ≡ u32_bytes x ++ (u32_bytes w ++ t) = rw e (entry_behind first a more) ∙ d ∙ append_assoc (u32_bytes x) (u32_bytes w) t in
        sym (next_end L es k (omega arith) ∙ rw b (entry_offset x w t s))

    abbrev found : Tail
    found = read_blocks u B L (suc k) n prev a es cs

    module _ (is_z : z ≡ end_of L es k) where
      beyond_is : L < z → Dec (a ≤ z) → found.fault ≡ 7
      beyond_is l (yes h) = rw (blocks_beyond u B L k n prev a es cs first z is_f is_z h l)
      beyond_is l (no g) = rw (blocks_back u B L k n prev a es cs first z is_f is_z (omega arith))

      low_is : a ≤ z → z ≤ L → ¬ (AboveAll first (prev ∷ [])) → Dec (prev < first) → found.fault ≡ 9
      low_is l₁ l₂ g (yes l₃) = absurd (g (l₃, tt))
      low_is l₁ l₂ g (no l₃) = rw (blocks_low u B L k n prev a es cs first z is_f is_z l₁ l₂ (omega arith))

      high_is : a ≤ z → z ≤ L → u < first → Dec (prev < first) → found.fault ≡ 9
      high_is l₁ l₂ g (yes l₃) = rw (blocks_high u B L k n prev a es cs first z is_f is_z l₁ l₂ l₃ g)
      high_is l₁ l₂ g (no l₃) = rw (blocks_low u B L k n prev a es cs first z is_f is_z l₁ l₂ (omega arith))

      refused_here : (f : ℕ) → BlockFault u B L (prev ∷ []) n first a z cs f → found.fault ≡ f
      refused_here f (back l) = rw (blocks_back u B L k n prev a es cs first z is_f is_z l)
      refused_here f (beyond l) = beyond_is l (dec_le _ _)
      refused_here f (low l₁ l₂ l) = low_is l₁ l₂ l (dec_lt _ _)
      refused_here f (high l₁ l₂ l) = high_is l₁ l₂ l (dec_lt _ _)
      refused_here f (inner bytes t l₁ l₂ l₃ l₄ d i c) =
          let size : length bytes ≡ z - a = omega arith in
          let own : take (z - a) cs ≡ bytes = rw d (take_at bytes t (z - a) size) in
          let is : (read_codes u (min B n - 1) first (take (z - a) cs)).fault ≡ f = rw own (codes_refused u small bytes (min B n - 1) first f c) in
          rw (blocks_bad u B L k n prev a es cs first z is_f is_z l₁ l₂ l₃.0 l₄ (λ q. let h = (codes_span c).0 in omega arith)) is

  module _ (word : L < 4294967296) where
    -- a sound block stands before the one that is wrong
    refused_step : (k n prev a x left first start : ℕ) (xs es cs more own : List ℕ) (bl : List (List ℕ)) (f : ℕ) → RoundsUp n B (suc k)
        → a + length cs ≡ L → Before u B prev n a es cs ((x ∷ xs) ∷ bl) left first start more own
        → ((z : ℕ) (es' cs' : List ℕ) → z + length cs' ≡ L → Before u B (last_of x xs) (n - B) z es' cs' bl left first start more own
        → (read_blocks u B L k (n - B) (last_of x xs) z es' cs').fault ≡ f)
        → (read_blocks u B L (suc k) n prev a es cs).fault ≡ f
    unfolding flatten skip_entries block_codes
    refused_step k n prev a x left first start xs es cs more own bl f r s b rec =
        let g = gap_codes x xs in
        let z = a + length g in
        let es' = skip_entries z bl ++ u32_bytes first ++ u32_bytes start ++ more in
        let cs' = all_codes bl ++ own in
        let full = b.full in
        let count = rw (length-append xs (flatten bl)) at b.count in
        let some = b.some in
        let up = b.rising in
        let e : es ≡ u32_bytes x ++ (u32_bytes a ++ es')
        = b.entered ∙ join_6 (u32_bytes x) (u32_bytes a) (skip_entries z bl) (u32_bytes first) (u32_bytes start) more in
        let d : cs ≡ g ++ cs' = b.coded ∙ append_assoc g (all_codes bl) own in
        let size = ap length d ∙ length-append g cs' in
        let from = rw (length-append g (all_codes bl)) at b.start_is in
        let long = length-append (all_codes bl) own in
        let t = u32_bytes first ++ (u32_bytes start ++ more) in
        let es-is : drop 8 es ≡ skip_entries z bl ++ t = rw e (entry_behind x a es') ∙ join_4 (skip_entries z bl) (u32_bytes first) (u32_bytes start) more in
        let off = first_offset z bl t (omega arith)
        (λ q. let n₀ : length (all_codes bl) ≡ 0 = rw q in entry_offset first start more (omega arith) ∙ omega arith) in
        let h = rounds_more (n - B) B k (omega arith) (rounds_less n B k r) in
        let end : z ≡ end_of L es k = sym (next_end L es k (omega arith) ∙ rw es-is off) in
        let next = rec z es' cs' (omega arith)
        (record {
          full = full.1;
          count = omega arith;
          some = some;
          rising = rise_back u x xs (flatten bl) up.2;
          entered = refl;
          coded = refl;
          start_is = omega arith;
          first_word = b.first_word;
        }) in
        let own-up = rise_front u x xs (flatten bl) up.2 in
        let got = block_read u B L small k n prev a x xs es cs es' cs' z e d refl end (omega arith) up.0 up.1 own-up (omega arith) in
        rw got next

    -- any number of sound blocks stand before it
    pub blocks_refused : (bl : List (List ℕ)) (k n prev a left first start z : ℕ) (es cs more own : List ℕ) (f : ℕ) → RoundsUp n B k
        → a + length cs ≡ L → Before u B prev n a es cs bl left first start more own → Ends B L left more z
        → BlockFault u B L (last_of prev (flatten bl) ∷ []) left first start z own f → (read_blocks u B L k n prev a es cs).fault ≡ f
    unfolding flatten skip_entries
    blocks_refused [] k n prev a left first start z es cs more own f r s b ends w₀ =
        let count = b.count in
        let n_is : left ≡ n = omega arith in
        let a-is : start ≡ a = omega (arith, b.start_is) in
        let i = rounds_more n B k (omega (arith, b.some)) r in
        let e = b.entered ∙ append_assoc (u32_bytes first) (u32_bytes start) more in
        let r₂ = subst (λ (m : ℕ). RoundsUp n B m) i r in
        let e₂ = rw a-is at e in
        let t = refused_here (k - 1) n prev a first z es cs more r₂ b.first_word e₂
        (ends_is (k - 1) n prev a first z es cs more r₂ b.first_word e₂ z (rw n_is at ends)) f (rw (n_is, a-is, ← b.coded) at w₀) in
        subst (λ (m : ℕ). (read_blocks u B L m n prev a es cs).fault ≡ f) (sym i) t
    blocks_refused ([] ∷ bl) k n prev a left first start z es cs more own f r s b ends w₀ =
        absurd (let full = b.full in let p = rounds_pos n B k r in omega arith)
    blocks_refused ((x ∷ xs) ∷ bl) k n prev a left first start z es cs more own f r s b ends w₀ =
        let count = b.count in
        let some = b.some in
        let i = rounds_more n B k (omega arith) r in
        let r₂ = subst (λ (m : ℕ). RoundsUp n B m) i r in
        subst (λ (m : ℕ). (read_blocks u B L m n prev a es cs).fault ≡ f) (sym i)
        (refused_step (k - 1) n prev a x left first start xs es cs more own bl f r₂ s b
        (λ w es' cs' s₂ b₂. blocks_refused bl (k - 1) (n - B) (last_of x xs) w left first start z es' cs' more own f (rounds_less n B (k - 1) r₂) s₂ b₂ ends
        (rw (last_join x xs (flatten bl)) at w₀)))
