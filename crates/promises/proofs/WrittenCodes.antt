-- The codes of one block, read against what is written: they are accepted exactly when they are the codes of rising slots, and else the
-- reader gives the number whose row applies.
use Prim.Native.Nat.{ℕ, zero, suc, ◌+◌, ◌-◌, ◌≤◌, ◌<◌}
use mathlib.Core.Path.{◌≡◌, refl, ap, ◌∙◌}
use mathlib.Core.List.{List, [], ◌∷◌, ◌++◌, append_assoc, append-nil, cons-ne-nil}
use native.Mathlib.Decide.{dec_lt, ℕ_discrete}
use native.Mathlib.Nat.{zero-add, suc-add}
use native.Mathlib.Omega.{arith}
use lib.ListN.{length}
use Rattle.paper.specs.Lists.{last_of}
use Rattle.paper.specs.Code.{Code, code_of, second, third, code_bytes}
use Rattle.paper.specs.Code.Code.{code, bad}
use Rattle.paper.specs.Block.{Block, halt, read_codes}
use Rattle.paper.specs.Write.{gap_codes}
use Rattle.laws.proofs.Parts.{AllBytes, all_behind}
use Rattle.laws.proofs.Codes.{off_one, off_on, off_two, off_two_zero, off_two_on, off_three, off_three_zero, off_three_on, code_read, code_is}
use Rattle.laws.proofs.Blocks.{codes_end, codes_left, codes_bad, codes_above, codes_next, CodeStep, code_step}
use Rattle.laws.proofs.Blocks.CodeStep.{no_code, code_above, code_next}
use Rattle.meaning.proofs.Rising.{Ascends}
use Rattle.meaning.proofs.Blocks.{codes_count, codes_rise}
use Rattle.promises.proofs.RecordRows.{LeadOn, Ill, SoundCodes, CodesRefused}
use Rattle.promises.proofs.RecordRows.Ill.{unended, over, zero_last}
use Rattle.promises.proofs.RecordRows.CodesRefused.{ill, above, remain}

-- A code is bad exactly as row 8 has it
clash : {v : ℕ} {r : List ℕ} {c : Code} → c ≡ bad → c ≡ code v r → ⊥
clash e f = let z : ◌≡◌ {A = ℕ} 0 1 = cc in omega arith

module _ (a : ℕ) (h : 128 ≤ a) where
  module _ (b : ℕ) (h₂ : 128 ≤ b) where
    bad_3 : (r : List ℕ) → code_of (a ∷ b ∷ r) ≡ bad → Ill (a ∷ b ∷ r)
    bad_3 [] e = unended (h, (h₂, tt))
    bad_3 (d ∷ r) e = go (dec_lt d 128) (ℕ_discrete d 0)
      where
        go : Dec (d < 128) → Dec (d ≡ 0) → Ill (a ∷ b ∷ d ∷ r)
        go (no g) z = let h₃ : 128 ≤ d = omega arith in over (a ∷ b ∷ d ∷ []) r refl refl (h, (h₂, (h₃, tt)))
        go (yes l) (yes z) = rw z (zero_last (a ∷ b ∷ []) r refl (omega arith) (h, (h₂, tt)))
        go (yes l) (no n) = absurd (clash e (off_on _ a h ∙ off_two_on _ _ b h₂ ∙ off_three r _ d l n))

  bad_2 : (r : List ℕ) → code_of (a ∷ r) ≡ bad → Ill (a ∷ r)
  bad_2 [] e = unended (h, tt)
  bad_2 (b ∷ r) e = go (dec_lt b 128) (ℕ_discrete b 0)
    where
      go : Dec (b < 128) → Dec (b ≡ 0) → Ill (a ∷ b ∷ r)
      go (no g) z = bad_3 b (omega arith) r e
      go (yes l) (yes z) = rw z (zero_last (a ∷ []) r refl (omega arith) (h, tt))
      go (yes l) (no n) = absurd (clash e (off_on _ a h ∙ off_two r _ b l n))

bad_ill : (bs : List ℕ) → code_of bs ≡ bad → Ill bs
bad_ill [] e = unended tt
bad_ill (a ∷ r) e = go (dec_lt a 128)
  where
    go : Dec (a < 128) → Ill (a ∷ r)
    go (yes l) = absurd (clash e (off_one r a l))
    go (no g) = bad_2 a (omega arith) r e

-- three bytes that lead on, or fewer to the end, or fewer before a zero
lead_3 : (a b d : ℕ) (r : List ℕ) → 128 ≤ a → 128 ≤ b → 128 ≤ d → code_of (a ∷ b ∷ d ∷ r) ≡ bad
lead_3 a b d r h h₂ h₃ = off_on _ a h ∙ off_two_on _ _ b h₂ ∙ off_three_on r _ d h₃

lead_end : (bs : List ℕ) → LeadOn bs → code_of bs ≡ bad
unfolding code_of second third
lead_end [] h = refl
lead_end (a ∷ []) h = off_on [] a h.0
lead_end (a ∷ b ∷ []) h = off_on _ a h.0 ∙ off_two_on [] _ b h.1.0
lead_end (a ∷ b ∷ d ∷ r) h = lead_3 a b d r h.0 h.1.0 h.1.1.0

lead_zero : (front r : List ℕ) → 1 ≤ length front → LeadOn front → code_of (front ++ 0 ∷ r) ≡ bad
lead_zero [] r l h = absurd (omega arith)
lead_zero (a ∷ []) r l h = off_on _ a h.0 ∙ off_two_zero r _ 0 (omega arith) refl
lead_zero (a ∷ b ∷ []) r l h = off_on _ a h.0 ∙ off_two_on _ _ b h.1.0 ∙ off_three_zero r _ 0 (omega arith) refl
lead_zero (a ∷ b ∷ d ∷ t) r l h = lead_3 a b d (t ++ 0 ∷ r) h.0 h.1.0 h.1.1.0

lead_over : (three r : List ℕ) → length three ≡ 3 → LeadOn three → code_of (three ++ r) ≡ bad
lead_over [] r l h = absurd (omega arith)
lead_over (a ∷ []) r l h = absurd (omega arith)
lead_over (a ∷ b ∷ []) r l h = absurd (omega arith)
lead_over (a ∷ b ∷ d ∷ t) r l h = lead_3 a b d (t ++ r) h.0 h.1.0 h.1.1.0

ill_bad : (bs : List ℕ) → Ill bs → code_of bs ≡ bad
ill_bad bs (unended h) = lead_end bs h
ill_bad bs (over three r e l h) = rw e (lead_over three r l h)
ill_bad bs (zero_last front r e l h) = rw e (lead_zero front r l h)

-- Bytes are the codes of the k slots xs, which rise above prev within u
pub record Coded (u k prev : ℕ) (xs bytes : List ℕ) : Type 0 where
  pub count : length xs ≡ k
  pub rising : Ascends u prev xs
  pub codes : bytes ≡ gap_codes prev xs

-- a block without fault
abbrev sound : List ℕ → Block
sound xs = record { fault = 0; slots = xs }

module _ (u : ℕ) where
  -- k codes that the reader accepts are those of the slots that it gives
  abbrev Read : ℕ → Type 0
  Read k = (prev : ℕ) (bs : List ℕ) → AllBytes bs → (read_codes u k prev bs).fault ≡ 0 → bs ≡ gap_codes prev (read_codes u k prev bs).slots

  read_end : Read zero
  unfolding gap_codes
  read_end prev [] all e = rw (codes_end u prev)
  read_end prev (b ∷ r) all e = absurd (let f = rw (codes_left u prev b r) at e in omega arith)

  read_step : (k : ℕ) → Read k → Read (suc k)
  unfolding gap_codes
  read_step k rec prev bs all = go _ (code_step u k prev bs)
    where
      go : (b : Block) → CodeStep u k prev bs b → b.fault ≡ 0 → bs ≡ gap_codes prev b.slots
      go b (no_code c) e = absurd (omega arith)
      go b (code_above v r c l) e = absurd (omega arith)
      go b (code_next v r c l) e =
          let i = code_is bs all v r c in
          let d : prev + v + 1 - prev - 1 ≡ v = omega arith in
          let t = rec (prev + v + 1) r (all_behind (code_bytes v) r (rw i.bytes at all)) e in
          i.bytes ∙ rw d (ap (λ (t : List ℕ). code_bytes v ++ t) t)

  codes_are : (k : ℕ) → Read k
  codes_are zero = read_end
  codes_are (suc k) = read_step k (codes_are k)

  -- there are k of these slots, and they rise
  pub codes_sound : (k prev : ℕ) (bs : List ℕ) → AllBytes bs → (read_codes u k prev bs).fault ≡ 0 → Coded u k prev (read_codes u k prev bs).slots bs
  codes_sound k prev bs all ok = record { count = codes_count u k prev bs ok; rising = codes_rise u k prev bs ok; codes = codes_are k prev bs all ok }

  module _ (small : u ≤ 1048576) where
    -- the reader behind the codes of rising slots
    codes_skip : (xs : List ℕ) (k prev : ℕ) (rest : List ℕ) → Ascends u prev xs
        → read_codes u (length xs + k) prev (gap_codes prev xs ++ rest)
        ≡ record { fault = (read_codes u k (last_of prev xs) rest).fault; slots = xs ++ (read_codes u k (last_of prev xs) rest).slots }
    unfolding gap_codes
    codes_skip [] k prev rest a = rw zero-add
    codes_skip (x ∷ xs) k prev rest a =
        let v = x - prev - 1 in
        let x-is : prev + v + 1 ≡ x = omega arith in
        let i = code_read v (gap_codes x xs ++ rest) (omega arith) in
        let j = ap code_of (append_assoc (code_bytes v) (gap_codes x xs) rest) ∙ i in
        let s = codes_next u prev (length xs + k) (code_bytes v ++ gap_codes x xs ++ rest) v (gap_codes x xs ++ rest) j (omega arith) in
        let t = codes_skip xs k x rest a.2 in
        rw (suc-add, s, x-is, t)

    -- the codes of rising slots are accepted, and give those slots back
    pub codes_back : (xs bs : List ℕ) (k prev : ℕ) → Coded u k prev xs bs → read_codes u k prev bs ≡ sound xs
    codes_back xs bs k prev c =
        let t = codes_skip xs 0 prev [] c.rising in
        let e = codes_end u (last_of prev xs) in
        let k_is : length xs + 0 ≡ k = omega (arith, c.count) in
        rw (c.codes, ← append-nil (gap_codes prev xs), ← k_is) (t ∙ rw e (ap sound (append-nil xs)))

    -- what stands behind sound codes decides
    behind : (xs rest bs : List ℕ) (k j prev f : ℕ) → SoundCodes u prev bs xs rest → length xs + j ≡ k
        → read_codes u j (last_of prev xs) rest ≡ halt f → (read_codes u k prev bs).fault ≡ f
    behind xs rest bs k j prev f s k_is e = rw (s.are, ← k_is, codes_skip xs j prev rest s.rising, e)

    -- what a row refuses the reader refuses, with that row's number
    pub codes_refused : (bs : List ℕ) (k prev f : ℕ) → CodesRefused u k prev bs f → (read_codes u k prev bs).fault ≡ f
    codes_refused bs k prev f (ill xs rest s l i) =
        behind xs rest bs k (suc (k - length xs - 1)) prev _ s (omega arith) (codes_bad u _ _ rest (ill_bad rest i))
    codes_refused bs k prev f (above xs rest v s l small-v g) =
        behind xs (code_bytes v ++ rest) bs k (suc (k - length xs - 1)) prev _ s (omega arith) (codes_above u _ _ _ v rest (code_read v rest small-v) g)
    codes_refused bs k prev f (remain xs [] s l n) = absurd (n refl)
    codes_refused bs k prev f (remain xs (b ∷ r) s l n) = behind xs (b ∷ r) bs k 0 prev _ s (omega arith) (codes_left u _ b r)

  -- what the reader refuses a row refuses
  abbrev Told : ℕ → Type 0
  Told k = (prev : ℕ) (bs : List ℕ) → AllBytes bs → ¬ ((read_codes u k prev bs).fault ≡ 0) → CodesRefused u k prev bs (read_codes u k prev bs).fault

  told_end : Told zero
  unfolding gap_codes
  told_end prev [] all f = absurd (f (rw (codes_end u prev)))
  told_end prev (b ∷ r) all f = rw (codes_left u prev b r) (remain [] (b ∷ r) (record { are = refl; rising = tt }) refl (cons-ne-nil b r))

  -- a sound code before codes that are refused
  module _ (k prev v : ℕ) (bs r : List ℕ) (e : bs ≡ code_bytes v ++ r) (l : prev + v + 1 ≤ u) where
    later_sound : (xs t : List ℕ) → SoundCodes u (prev + v + 1) r xs t → SoundCodes u prev bs ((prev + v + 1) ∷ xs) t
    unfolding gap_codes
    later_sound xs t s =
        let d : prev + v + 1 - prev - 1 ≡ v = omega arith in
        record { are = e ∙ rw (d, append_assoc, s.are); rising = (omega arith, l, s.rising) }

    later : (f : ℕ) → CodesRefused u k (prev + v + 1) r f → CodesRefused u (suc k) prev bs f
    later f (ill xs t s h i) = ill ((prev + v + 1) ∷ xs) t (later_sound xs t s) (omega arith) i
    later f (above xs t w s h i g) = above ((prev + v + 1) ∷ xs) t w (later_sound xs _ s) (omega arith) i g
    later f (remain xs t s h n) = remain ((prev + v + 1) ∷ xs) t (later_sound xs t s) (omega arith) n

  told_step : (k : ℕ) → Told k → Told (suc k)
  unfolding gap_codes
  told_step k rec prev bs all = go _ (code_step u k prev bs)
    where
      go : (b : Block) → CodeStep u k prev bs b → ¬ (b.fault ≡ 0) → CodesRefused u (suc k) prev bs b.fault
      go b (no_code c) f = ill [] bs (record { are = refl; rising = tt }) (omega arith) (bad_ill bs c)
      go b (code_above v r c l) f =
          let i = code_is bs all v r c in above [] r v (record { are = i.bytes; rising = tt }) (omega arith) i.small l
      go b (code_next v r c l) f =
          let i = code_is bs all v r c in
          later k prev v bs r i.bytes l _ (rec (prev + v + 1) r (all_behind (code_bytes v) r (rw i.bytes at all)) f)

  -- any number of codes
  pub codes_told : (k : ℕ) → Told k
  codes_told zero = told_end
  codes_told (suc k) = told_step k (codes_told k)

-- the number of a row is 8 or 9
pub codes_span : {u k prev : ℕ} {bytes : List ℕ} {f : ℕ} → CodesRefused u k prev bytes f → (7 < f) × (f < 10)
codes_span (ill xs t s h i) = (omega arith, omega arith)
codes_span (above xs t w s h i g) = (omega arith, omega arith)
codes_span (remain xs t s h n) = (omega arith, omega arith)
