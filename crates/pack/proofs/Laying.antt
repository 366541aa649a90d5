-- Where the parts of a record lie, and that written side by side they are the record.
use Prim.Native.Nat.{ℕ, ◌+◌, ◌-◌, ◌*◌, ◌≤◌, ◌<◌}
use mathlib.Core.Path.{◌≡◌, refl, sym, ap, ◌∙◌}
use mathlib.Core.List.{List, ◌++◌, append_assoc}
use native.Mathlib.Omega.{arith}
use lib.ListN.{length, take, drop, length-append, length-take, length-drop}
use lib.Seq.{sets, sets-eq, take_at, drop_at, drop-drop, length-take-le}
use Rattle.paper.specs.Lists.{has, on_front}
use Rattle.paper.specs.Bytes.{u32_bytes, part, ceil_div}
use Rattle.paper.specs.Tail.{block_count}
use Rattle.paper.specs.Record.{bit_length}
use Rattle.paper.specs.Write.{skip_entries, encoded, encode}
use Rattle.laws.proofs.Lists.{keep_length}
use Rattle.laws.proofs.Parts.{part_end, length_part}
use Rattle.laws.proofs.Stores.{Run, run_more, run_word, run_first, sets_front}
use Rattle.laws.proofs.Rounding.{bytes_hold}
use Rattle.laws.proofs.Octets.{bits_length}
use Rattle.laws.proofs.Entries.{entries_length}
use Rattle.laws.proofs.Cutting.{blocks_length}
use Rattle.laws.proofs.Lengths.{encode_length}
use Rattle.meaning.proofs.Rising.{Ascends, rise_lower, rise_higher}
use Rattle.meaning.proofs.Parting.{up_to, above, cut_join, cut_low, cut_high}
use Rattle.pack.specs.Measures.{bits_for, blocks_for, tail_codes, Judged, LaidOut}
use Rattle.pack.specs.declared.Layout.{Layout}
use Rattle.pack.proofs.Tailing.{few_slots}

-- two numbers, one behind the other
pub two_words : (room room₁ room₂ : List ℕ) (at a b : ℕ) → room₁ ≡ sets room at (u32_bytes a) → room₂ ≡ sets room₁ (at + 4) (u32_bytes b)
    → room₂ ≡ sets room at (u32_bytes a ++ u32_bytes b)
two_words room room₁ room₂ at a b e₁ e₂ = (run_word (run_first a room₁ e₁) b room₂ e₂).is

-- three, from 0 on
pub three_words : (room room₁ room₂ room₃ : List ℕ) (a b c : ℕ) → room₁ ≡ sets room 0 (u32_bytes a) → room₂ ≡ sets room₁ 4 (u32_bytes b)
    → room₃ ≡ sets room₂ 8 (u32_bytes c) → room₃ ≡ sets room 0 (u32_bytes a ++ u32_bytes b ++ u32_bytes c)
three_words room room₁ room₂ room₃ a b c e₁ e₂ e₃ = (run_word (run_word (run_first a room₁ e₁) b room₂ e₂) c room₃ e₃).is

-- the head of a record of these slots
abbrev head_bytes : ℕ → ℕ → List ℕ → List ℕ
head_bytes B cut high = u32_bytes cut ++ u32_bytes (length high) ++ u32_bytes (length (tail_codes B high))

head_long : (B cut : ℕ) (high : List ℕ) → length (head_bytes B cut high) ≡ 12
unfolding u32_bytes
head_long B cut high = refl

module _ (B cut : ℕ) (slots : List ℕ) where
  abbrev high : List ℕ
  high = above cut slots

  abbrev low : List ℕ
  low = up_to cut slots

  -- a record is its head, its bits, its entries and its codes
  encode_is : encode B cut slots
      ≡ head_bytes B cut high ++ bits_for low (bit_length cut) ++ skip_entries 0 (blocks_for B high) ++ tail_codes B high
  unfolding encode encoded bits_for
  encode_is = refl

  bits_long : length (bits_for low (bit_length cut)) ≡ bit_length cut
  unfolding bits_for
  bits_long = bits_length (λ x. has x low) (bit_length cut) 1

  entries_long : length (skip_entries 0 (blocks_for B high)) ≡ 8 * block_count B (length high)
  entries_long = entries_length 0 (blocks_for B high) ∙ ap (λ (m : ℕ). 8 * m) (blocks_length B (block_count B (length high)) high)

-- Slots of which nothing but the room is still to be judged, and how many lie up to the cut
module _ {B cut : ℕ} {slots : List ℕ} (p : Judged B cut slots) where
  -- there are not many
  slots_few : length slots ≤ 1048576
  slots_few = few_slots slots p.rising

  module _ (n : ℕ) (is : n ≡ length (up_to cut slots)) where
    -- not more than all
    pub low_within : n ≤ length slots
    low_within = rw is (keep_length _ slots)

    -- nor so many that their bytes leave the numbers of the machine
    pub low_small : n * 4 < 18446744073709551616
    low_small = omega (arith, low_within, slots_few)

    -- the others are so few that four bytes count them
    pub high_word : length slots - n < 4294967296
    high_word = omega (arith, slots_few)

    parted : up_to cut slots ++ above cut slots ≡ slots
    parted = cut_join cut 1048576 0 slots p.rising

    -- the first n lie up to the cut
    low_are : take n slots ≡ up_to cut slots
    low_are = ap (take n) (sym parted) ∙ take_at (up_to cut slots) (above cut slots) n (sym is)

    -- the others above it
    high_are : part slots n (length slots) ≡ above cut slots
    high_are = part_end slots n ∙ ap (drop n) (sym parted) ∙ drop_at (up_to cut slots) (above cut slots) n (sym is)

    -- and rise
    pub high_rise : Ascends 1048576 0 (part slots n (length slots))
    high_rise = rw high_are (rise_lower 1048576 0 cut (above cut slots) (omega arith) (cut_high cut 1048576 0 slots p.rising))

    -- so many there are
    high_count : length slots - n ≡ length (above cut slots)
    high_count = sym (length_part slots n (length slots) (omega arith)) ∙ ap length high_are

    -- The parts as they were measured: w bytes of bits, m entries, s code bytes
    module _ (w : ℕ) (fewW : w ≤ cut) (m : ℕ) (fewM : m ≤ length slots - n) where
      -- they fit the numbers of the machine
      pub to_small : 12 + w + 8 * m < 18446744073709551616
      to_small = omega (arith, slots_few, p.cut_within)

      module _ (s : ℕ) (fewS : s ≤ 3 * length (part slots n (length slots))) where
        s_few : s ≤ 3 * (length slots - n)
        s_few = rw (length_part slots n (length slots) (omega arith)) at fewS

        -- all of them do
        pub end_small : 12 + w + 8 * m + s < 18446744073709551616
        end_small = omega (arith, slots_few, p.cut_within, s_few)

        -- and this is the layout
        pub laid_out : w ≡ ceil_div cut 8 → m ≡ ceil_div (length slots - n) B → s ≡ length (tail_codes B (part slots n (length slots)))
            → LaidOut B cut slots (record { low = n; entries = 12 + w; codes = 12 + w + 8 * m; end = 12 + w + 8 * m + s })
        laid_out isW isM isS =
            let m_is : m ≡ block_count B (length (above cut slots)) = isM ∙ ap (λ (k : ℕ). ceil_div k B) high_count in
            let s-is : s ≡ length (tail_codes B (above cut slots)) = isS ∙ ap (λ (xs : List ℕ). length (tail_codes B xs)) high_are in
            record {
              low = is;
              entries = ap (λ (k : ℕ). 12 + k) isW;
              codes = ap (λ (k : ℕ). 12 + w + 8 * k) m_is;
              end = ap (λ (k : ℕ). 12 + w + 8 * m + k) s-is;
              size = omega (arith, encode_length B cut slots);
              small = omega (arith, slots_few, p.cut_within, s_few);
            }

-- of the slots in their two parts
pub ruleset partings = (low_within, low_small, high_word, high_rise)

-- what measuring a record asks for
pub ruleset layings = (partings, to_small, end_small, laid_out)

-- A record that was laid out, in a room that holds it
module _ {B cut : ℕ} {slots : List ℕ} (p : Judged B cut slots) {lay : Layout} (l : LaidOut B cut slots lay) where
  -- its parts lie in this order
  pub from_after : 12 ≤ lay.entries
  from_after = omega (arith, l.entries)

  to_after : lay.entries ≤ lay.codes
  to_after = omega (arith, l.codes)

  -- the codes come last
  pub end_after : lay.codes ≤ lay.end
  end_after = omega (arith, l.end)

  -- four bytes count the code bytes
  pub codes_word : lay.end - lay.codes < 4294967296
  codes_word = omega (arith, l.small)

  -- the entries lie between the bits and the codes
  pub entries_there : lay.entries + 8 * length (blocks_for B (part slots lay.low (length slots))) ≡ lay.codes
  entries_there =
      rw (high_are p lay.low l.low, blocks_length B (block_count B (length (above cut slots))) (above cut slots)) (sym l.codes)

  module _ (room : List ℕ) (fits : lay.end ≤ length room) where
    -- the head has its room
    pub head_room : 12 ≤ length room
    head_room = omega (arith, from_after, to_after, end_after)

    -- the codes have theirs behind the entries, also where bits stand from 12 on, as many bytes of them as were lent for it
    pub codes_there : (room₁ : List ℕ) → length room₁ ≡ length room → (k : ℕ) (bits low : List ℕ) → bits ≡ bits_for low (length (take k (drop 12 room₁)))
        → lay.codes + length (tail_codes B (part slots lay.low (length slots))) ≤ length (take 12 room₁ ++ (bits ++ drop k (drop 12 room₁)))
    unfolding bits_for
    codes_there room₁ kept k bits low is =
        let m = ap length is ∙ bits_length (λ x. has x low) (length (take k (drop 12 room₁))) 1 in
        let n = length-take k (drop 12 room₁) in
        let a = length-append (take 12 room₁) (bits ++ drop k (drop 12 room₁)) in
        let b = length-append bits (drop k (drop 12 room₁)) in
        let t = length-take-le 12 room₁ (omega (arith, head_room)) in
        let c = length-drop k (drop 12 room₁) in
        let d = length-drop 12 room₁ in
        rw (high_are p lay.low l.low) (omega (arith, l.end))

    -- and so have the bits, in the room as the head has left it
    module _ (room₁ : List ℕ) (kept : length room₁ ≡ length room) where
      pub bits_room : lay.entries ≤ length room₁
      bits_room = omega (arith, to_after, end_after)

      bits_count : length (part room₁ 12 lay.entries) ≡ bit_length cut
      bits_count = length_part room₁ 12 lay.entries bits_room ∙ omega (arith, l.entries)

      -- enough for the slots up to the cut
      pub bits_rise : Ascends (8 * length (part room₁ 12 lay.entries)) 0 (take lay.low slots)
      bits_rise =
          rw (bits_count, low_are p lay.low l.low)
          (rise_higher (8 * bit_length cut) cut 0 (up_to cut slots) (bytes_hold cut) (cut_low cut 1048576 0 slots p.rising))

      -- and so is all that stands behind the head. (No proof needs it today; with it, a writing that clears all of that fails at what it breaks)
      pub bits_rise_all : Ascends (8 * length (part room₁ 12 (length room₁))) 0 (take lay.low slots)
      bits_rise_all =
          let n = length_part room₁ 12 (length room₁) (omega arith) in
          let r = rise_higher (8 * length (part room₁ 12 (length room₁))) (8 * length (part room₁ 12 lay.entries)) 0 (take lay.low slots) in
          r (omega (arith, bits_count, bits_room, l.entries)) bits_rise

      -- the room with them
      abbrev marked : List ℕ → List ℕ
      marked bits = take 12 room₁ ++ (bits ++ drop (lay.entries - 12) (drop 12 room₁))

      module _ (bits : List ℕ) (is_b : bits ≡ bits_for (take lay.low slots) (length (part room₁ 12 lay.entries))) where
        bits_are : bits ≡ bits_for (up_to cut slots) (bit_length cut)
        bits_are = rw (← bits_count, ← low_are p lay.low l.low) is_b

        bits_size : length bits ≡ bit_length cut
        bits_size = ap length bits_are ∙ bits_long B cut slots

        marked_is : marked bits ≡ sets room₁ 12 bits
        marked_is =
            let b = bits_room in
            let n : lay.entries - 12 ≡ length bits = omega (arith, bits_size, l.entries) in
            sym (append_assoc (take 12 room₁) bits (drop (lay.entries - 12) (drop 12 room₁)))
            ∙ ap (λ (r : List ℕ). take 12 room₁ ++ bits ++ r) (drop-drop (lay.entries - 12) 12 room₁ ∙ ap (λ (m : ℕ). drop (12 + m) room₁) n)
            ∙ sym (sets-eq bits room₁ 12 (omega (arith, from_after)))

        -- all parts are written, and the room has the record at its front
        pub assembled : room₁ ≡ sets room 0 (u32_bytes cut ++ u32_bytes (length slots - lay.low) ++ u32_bytes (lay.end - lay.codes)) → (room₂ : List ℕ)
            → room₂
            ≡ sets (sets (marked bits) lay.entries (skip_entries 0 (blocks_for B (part slots lay.low (length slots))))) lay.codes
            (tail_codes B (part slots lay.low (length slots)))
            → room₂ ≡ on_front (encode B cut slots) room
        assembled e₁ room₂ e₂ =
            let h = above cut slots in
            let entries = skip_entries 0 (blocks_for B h) in
            let n : length slots - lay.low ≡ length h = high_count p lay.low l.low in
            let c : lay.end - lay.codes ≡ length (tail_codes B h) = omega (arith, l.end) in
            let f₁ : Run room 0 (head_bytes B cut h) 12 room₁ = record { size = head_long B cut h; is = rw (n, c) at e₁ } in
            let f₂ = run_more f₁ bits (bit_length cut) bits_size 12 refl (marked bits) marked_is in
            let f₃ = run_more f₂ entries _ (entries_long B cut slots) lay.entries (omega (arith, l.entries)) (sets (marked bits) lay.entries entries) refl in
            let f₄ = run_more f₃ (tail_codes B h) _ refl lay.codes (omega (arith, l.entries, l.codes)) room₂ (rw (high_are p lay.low l.low) at e₂) in
            f₄.is
            ∙ ap (λ (b : List ℕ). sets room 0 (head_bytes B cut h ++ b ++ entries ++ tail_codes B h)) bits_are
            ∙ ap (λ (r : List ℕ). sets room 0 r) (sym (encode_is B cut slots))
            ∙ sets_front (encode B cut slots) room (omega (arith, l.size))

-- what writing one asks for
pub ruleset placings = (partings, end_after, codes_word, from_after, head_room, bits_room, bits_rise, bits_rise_all, entries_there)
