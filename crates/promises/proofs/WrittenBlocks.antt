-- The blocks of a tail, read against what is written: they are accepted exactly when entries and codes are those of rising slots in blocks
-- of B.
use Prim.Native.Nat.{ℕ, zero, suc, ◌+◌, ◌-◌, ◌*◌, ◌≤◌, ◌<◌, min}
use mathlib.Core.Path.{◌≡◌, refl, sym, ap, subst, ◌∙◌}
use mathlib.Core.List.{List, [], ◌∷◌, ◌++◌, append-nil, cons-ne-nil, flatten, append_assoc}
use native.Mathlib.Omega.{arith}
use lib.ListN.{length, get_or, take, drop, length-append, length-take, length-drop, take-append-drop}
use lib.Seq.{take_at, drop_at}
use Rattle.paper.specs.Lists.{last_of}
use Rattle.paper.specs.Bytes.{u32_bytes}
use Rattle.paper.specs.Block.{Block}
use Rattle.paper.specs.Tail.{Tail, join, first_slot, offset_of, end_of, read_blocks}
use Rattle.paper.specs.Write.{gap_codes, block_codes, skip_entries}
use Rattle.laws.proofs.Parts.{AllBytes, all_drop, join_4, all_take, no_length}
use Rattle.laws.proofs.Rounding.{RoundsUp, rounds_zero, rounds_some, rounds_less, rounds_more, rounds_none, rounds_pos}
use Rattle.laws.proofs.Tails.{blocks_end, blocks_next, BlockStep, block_step}
use Rattle.laws.proofs.Tails.BlockStep.{step_back, step_beyond, step_low, step_high, step_bad, step_next}
use Rattle.laws.proofs.Entries.{entry_first, entry_behind, entry_offset, entry_is, last_end, next_end}
use Rattle.meaning.proofs.Rising.{Ascends, rise_join, rise_front, rise_back}
use Rattle.promises.proofs.RecordRows.{all_codes}
use Rattle.promises.proofs.WrittenCodes.{Coded, codes_sound, codes_back}

-- n slots, cut in blocks of B; the last block has what is left
abbrev pub Cut : ℕ → ℕ → List (List ℕ) → Type 0
Cut B n [] = n ≡ 0
Cut B n (b ∷ bl) = (1 ≤ n) × (length b ≡ min B n) × Cut B (n - B) bl

-- n slots bl, in blocks of B, rise above prev within u; es are their entries, and cs their codes, from offset a on
pub record Laid (u B n prev a : ℕ) (es cs : List ℕ) (bl : List (List ℕ)) : Type 0 where
  pub cut : Cut B n bl
  pub rising : Ascends u prev (flatten bl)
  pub entered : es ≡ skip_entries a bl
  pub coded : cs ≡ all_codes bl

-- k blocks with n slots are to be read: es are bytes for their entries, and cs, from offset a on, the code bytes up to L
pub record Room (B L k n a : ℕ) (es cs : List ℕ) : Type 0 where
  pub all_es : AllBytes es
  pub all_cs : AllBytes cs
  pub count : RoundsUp n B k
  pub long : length es ≡ 8 * k
  pub size : a + length cs ≡ L
  pub start : 1 ≤ k → a ≡ offset_of es 0
  pub done : k ≡ 0 → a ≡ L

-- It begins with an entry
pub room_entry : (B L k n a : ℕ) (es cs : List ℕ) → Room B L (suc k) n a es cs → es ≡ u32_bytes (first_slot es 0) ++ (u32_bytes a ++ drop 8 es)
room_entry B L k n a es cs r = let l = r.long in rw (r.start (omega arith)) (entry_is es r.all_es (omega arith))

-- and the codes up to z are as many as lie between
pub room_own : (B L k n a : ℕ) (es cs : List ℕ) → Room B L k n a es cs → (z : ℕ) → a ≤ z → z ≤ L → a + length (take (z - a) cs) ≡ z
room_own B L k n a es cs r z l₁ l₂ = let s = r.size in rw length-take (omega arith)

-- after one block
pub room_next : (B L k n a : ℕ) (es cs : List ℕ) (z : ℕ) → Room B L (suc k) n a es cs → z ≡ end_of L es k → a ≤ z → z ≤ L
    → Room B L k (n - B) z (drop 8 es) (drop (z - a) cs)
room_next B L k n a es cs z r is l₁ l₂ =
    let le = r.long in
    let s = r.size in
    record {
      all_es = all_drop 8 es r.all_es;
      all_cs = all_drop (z - a) cs r.all_cs;
      count = rounds_less n B k r.count;
      long = rw length-drop (omega arith);
      size = rw length-drop (omega arith);
      start = λ h. is ∙ next_end L es k h;
      done = λ h. is ∙ last_end L es k h;
    }

-- a sound block before blocks that are laid
laid_step : (u B n prev a first : ℕ) (slots own es es' cs cs' : List ℕ) (bl : List (List ℕ)) → 1 ≤ B → 1 ≤ n
    → es ≡ u32_bytes first ++ (u32_bytes a ++ es') → prev < first → first ≤ u → Coded u (min B n - 1) first slots own → cs ≡ own ++ cs'
    → Laid u B (n - B) (last_of first slots) (a + length own) es' cs' bl → Laid u B n prev a es cs ((first ∷ slots) ∷ bl)
unfolding flatten skip_entries block_codes
laid_step u B n prev a first slots own es es' cs cs' bl pos some e l₃ l₄ c d r =
    let cc₁ = c.count in
    record {
      cut = (some, omega arith, r.cut);
      rising = (l₃, l₄, rise_join u first slots (flatten bl) c.rising r.rising);
      entered = e ∙ sym (append_assoc (u32_bytes first) (u32_bytes a) es') ∙ rw (r.entered, c.codes);
      coded = d ∙ rw (r.coded, c.codes);
    }

-- k blocks that the reader accepts are laid as it reads them
module _ (u B L : ℕ) (pos : 1 ≤ B) where
  abbrev Read : ℕ → Type 0
  Read k =
      (n prev a : ℕ) (es cs : List ℕ) → Room B L k n a es cs → (read_blocks u B L k n prev a es cs).fault ≡ 0
      → Laid u B n prev a es cs (read_blocks u B L k n prev a es cs).blocks

  read_end : Read zero
  unfolding flatten skip_entries
  read_end n prev a es cs r f =
      let d = r.done refl in
      let s = r.size in
      rw (blocks_end u B L n prev a es cs)
      (record { cut = rounds_zero n B r.count; rising = tt; entered = no_length es r.long; coded = no_length cs (omega arith) })

  read_step : (k : ℕ) → Read k → Read (suc k)
  read_step k rec n prev a es cs r = go _ (block_step u B L k n prev a es cs first z refl refl)
    where
      first : ℕ
      first = first_slot es 0

      z : ℕ
      z = end_of L es k

      go : (t : Tail) → BlockStep u B L k n prev a es cs first z t → t.fault ≡ 0 → Laid u B n prev a es cs t.blocks
      go t (step_back l) ok = absurd (omega arith)
      go t (step_beyond l₁ l) ok = absurd (omega arith)
      go t (step_low l₁ l₂ l) ok = absurd (omega arith)
      go t (step_high l₁ l₂ l₃ l) ok = absurd (omega arith)
      go t (step_bad l₁ l₂ l₃ l₄ g) ok = absurd (g ok)
      go t (step_next l₁ l₂ l₃ l₄ f) ok =
          let own = take (z - a) cs in
          let c = codes_sound u (min B n - 1) first own (all_take (z - a) cs r.all_cs) f in
          let t = rec (n - B) _ z (drop 8 es) (drop (z - a) cs) (room_next B L k n a es cs z r refl l₁ l₂) ok in
          let e = room_entry B L k n a es cs r in
          laid_step u B n prev a first _ own es (drop 8 es) cs (drop (z - a) cs) _ pos (rounds_some n B k r.count) e l₃ l₄ c
          (sym (take-append-drop (z - a) cs)) (rw (room_own B L (suc k) n a es cs r z l₁ l₂) t)

  -- any number of blocks
  pub blocks_sound : (k : ℕ) → Read k
  blocks_sound zero = read_end
  blocks_sound (suc k) = read_step k (blocks_sound k)

-- blocks without fault
abbrev pub sound_tail : List (List ℕ) → Tail
sound_tail bl = record { fault = 0; blocks = bl }

-- the first offset of entries that are as written, with t behind them
pub first_offset : (z : ℕ) (bl : List (List ℕ)) (t : List ℕ) → z < 4294967296 → (bl ≡ [] → offset_of t 0 ≡ z) → offset_of (skip_entries z bl ++ t) 0 ≡ z
unfolding skip_entries
first_offset z [] t small h = h refl
first_offset z (b ∷ bl) t small h =
    let e : skip_entries z (b ∷ bl) ++ t ≡ u32_bytes (get_or b 0 0) ++ (u32_bytes z ++ (skip_entries (z + length (block_codes b)) bl ++ t))
    = join_4 (u32_bytes (get_or b 0 0)) (u32_bytes z) (skip_entries (z + length (block_codes b)) bl) t in
    rw e (entry_offset (get_or b 0 0) z (skip_entries (z + length (block_codes b)) bl ++ t) small)

module _ (u B L : ℕ) (small : u ≤ 1048576) where
  -- the reader behind a sound block
  pub block_read : (k n prev a x : ℕ) (xs es cs es' cs' : List ℕ) (z : ℕ) → es ≡ u32_bytes x ++ (u32_bytes a ++ es') → cs ≡ gap_codes x xs ++ cs'
      → z ≡ a + length (gap_codes x xs) → z ≡ end_of L es k → z ≤ L → prev < x → x ≤ u → Ascends u x xs → length xs ≡ min B n - 1
      → read_blocks u B L (suc k) n prev a es cs ≡ join (x ∷ xs) (read_blocks u B L k (n - B) (last_of x xs) z es' cs')
  block_read k n prev a x xs es cs es' cs' z e d z-is end l₂ l₃ l₄ rise many =
      let g = gap_codes x xs in
      let size : length g ≡ z - a = omega arith in
      let own : take (z - a) cs ≡ g = rw d (take_at g cs' (z - a) size) in
      let got = codes_back u small xs (take (z - a) cs) (min B n - 1) x (record { count = many; rising = rise; codes = own }) in
      let is_f : x ≡ first_slot es 0 = rw e (sym (entry_first x a es' (omega arith))) in
      let s = blocks_next u B L k n prev a es cs x z is_f end (omega arith) l₂ l₃ l₄ (ap (λ (b : Block). b.fault) got) in
      let es-is : drop 8 es ≡ es' = rw e (entry_behind x a es') in
      let cs-is : drop (z - a) cs ≡ cs' = rw d (drop_at g cs' (z - a) size) in
      s ∙ rw (got, es-is, cs-is)

  module _ (word : L < 4294967296) where
    -- the end of a block's codes, by the blocks behind it
    end_is : (bl : List (List ℕ)) (k n z : ℕ) (es cs : List ℕ) → RoundsUp n B k → Cut B n bl → drop 8 es ≡ skip_entries z bl
        → z + length cs ≡ L → cs ≡ all_codes bl → z ≡ end_of L es k
    unfolding flatten
    end_is [] k n z es cs r c e s d =
        let i = rounds_none n B k c r in
        let l = ap length d in
        let j : z ≡ L = omega arith in
        j ∙ sym (last_end L es k i)
    end_is (b ∷ bl) k n z es cs r c e s d =
        let m = rounds_more n B k c.0 r in
        let f = first_offset z (b ∷ bl) [] (omega arith) (λ q. absurd (cons-ne-nil b bl q)) in
        sym (next_end L es k (omega arith) ∙ rw e (rw append-nil at f))

    laid_step_read : (k n prev a x : ℕ) (xs es cs : List ℕ) (bl : List (List ℕ)) → RoundsUp n B (suc k) → a + length cs ≡ L
        → Laid u B n prev a es cs ((x ∷ xs) ∷ bl)
        → ((z : ℕ) (es' cs' : List ℕ) → z + length cs' ≡ L → Laid u B (n - B) (last_of x xs) z es' cs' bl
        → read_blocks u B L k (n - B) (last_of x xs) z es' cs' ≡ sound_tail bl)
        → read_blocks u B L (suc k) n prev a es cs ≡ sound_tail ((x ∷ xs) ∷ bl)
    unfolding flatten skip_entries block_codes
    laid_step_read k n prev a x xs es cs bl r s l rec =
        let g = gap_codes x xs in
        let z = a + length g in
        let es' = skip_entries z bl in
        let cs' = all_codes bl in
        let c = l.cut in
        let up = l.rising in
        let e : es ≡ u32_bytes x ++ (u32_bytes a ++ es') = l.entered ∙ append_assoc (u32_bytes x) (u32_bytes a) es' in
        let d : cs ≡ g ++ cs' = l.coded in
        let size = ap length d ∙ length-append g cs' in
        let es-is : drop 8 es ≡ es' = rw e (entry_behind x a es') in
        let end = end_is bl k (n - B) z es cs' (rounds_less n B k r) c.2 es-is (omega arith) refl in
        let next = rec z es' cs' (omega arith) (record { cut = c.2; rising = rise_back u x xs (flatten bl) up.2; entered = refl; coded = refl }) in
        block_read k n prev a x xs es cs es' cs' z e d refl end (omega arith) up.0 up.1 (rise_front u x xs (flatten bl) up.2) (omega arith)
        ∙ ap (join (x ∷ xs)) next

    -- blocks that are laid are accepted, and give their slots back
    pub laid_read : (bl : List (List ℕ)) (k n prev a : ℕ) (es cs : List ℕ) → RoundsUp n B k → a + length cs ≡ L → Laid u B n prev a es cs bl
        → read_blocks u B L k n prev a es cs ≡ sound_tail bl
    laid_read [] k n prev a es cs r s l =
        let i = rounds_none n B k l.cut r in rw i (blocks_end u B L n prev a es cs)
    laid_read ([] ∷ bl) k n prev a es cs r s l = absurd (let c = l.cut in let p = rounds_pos n B k r in omega arith)
    laid_read ((x ∷ xs) ∷ bl) k n prev a es cs r s l =
        let i = rounds_more n B k l.cut.0 r in
        let r₂ = subst (λ (m : ℕ). RoundsUp n B m) i r in
        subst (λ (m : ℕ). read_blocks u B L m n prev a es cs ≡ sound_tail ((x ∷ xs) ∷ bl)) (sym i)
        (laid_step_read (k - 1) n prev a x xs es cs bl r₂ s l
        (λ z es' cs'. laid_read bl (k - 1) (n - B) (last_of x xs) z es' cs' (rounds_less n B (k - 1) r₂)))
