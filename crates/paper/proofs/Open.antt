-- Written by tools/mkopen: every definition opened at once. A proof by computation says `unfolding opened`.
use Prim.Native.Nat.{ℕ}
use mathlib.Core.List.{flatten}
use Rattle.paper.specs.Lists.{has, same, keep, leading, first_from, up_from, total}
use Rattle.paper.specs.Bytes.{u32_at, u32_bytes, ceil_div}
use Rattle.paper.specs.Code.{third, second, code_of, code_bytes}
use Rattle.paper.specs.Block.{read_codes}
use Rattle.paper.specs.Tail.{read_blocks, read_tail}
use Rattle.paper.specs.Record.{bit_at, next_bit, slots_to_cut, tail_in, tail_of, fault6, fault17, record_fault}
use Rattle.paper.specs.Held.{contents, count_of, listed, entry_of}
use Rattle.paper.specs.Refusal.{fault1, fault2, fault3, fault4, fault4k, too_short, starts_fault, fault5, fault10, fault11, fault12, good_slots, fault13, fault13n, fault14, fault15, fault16}
use Rattle.paper.specs.Index.{from_end, start_of, held}
use Rattle.paper.specs.Look.{frame_fault, lists_fault, look}
use Rattle.paper.specs.Search.{halved_f, halved, galloped_f, galloped, searched}
use Rattle.paper.specs.Walk.{seek, seek_in, or_behind, tried, walk_list, walks}
use Rattle.paper.specs.Question.{in_all, common, common_slots, placed, order_from, order, in_order, smallest, from_smallest, charged_at, places, charges, by_skips}
use Rattle.paper.specs.Ask.{room_needed, ask_fault, answer_slots, costs, ask_answer, ask_slice}
use Rattle.paper.specs.OneList.{name_fault, test_fault, test_answer, next_answer, count_answer, lent, part_answer}
use Rattle.paper.specs.Write.{octet, bit_bytes, in_blocks, gap_codes, block_codes, skip_entries, encoded, encode, write_fault, written_with, write_answer, write_buffer}
use Rattle.paper.specs.Reserve.{most_bytes, bound_fault, bound_answer}
use Rattle.paper.specs.Close.{close_fault, frame_bytes, close_answer, close_buffer}
use Rattle.paper.specs.Line.{read_numbers, read_line}
use Rattle.paper.specs.Program.{decimal_f, decimal, printed, replied, on_line, program}
use Rattle.paper.proofs.Hex.{hex_f, hex, list0, list1, index, slots0, slots1}

unfoldable pub opened : ℕ
unfolding flatten has same keep leading first_from up_from total u32_at u32_bytes ceil_div third second code_of code_bytes read_codes read_blocks read_tail bit_at next_bit slots_to_cut tail_in tail_of fault6 fault17 record_fault contents count_of listed entry_of fault1 fault2 fault3 fault4 fault4k too_short starts_fault fault5 fault10 fault11 fault12 good_slots fault13 fault13n fault14 fault15 fault16 from_end start_of held frame_fault lists_fault look halved_f halved galloped_f galloped searched seek seek_in or_behind tried walk_list walks in_all common common_slots placed order_from order in_order smallest from_smallest charged_at places charges by_skips room_needed ask_fault answer_slots costs ask_answer ask_slice name_fault test_fault test_answer next_answer count_answer lent part_answer octet bit_bytes in_blocks gap_codes block_codes skip_entries encoded encode write_fault written_with write_answer write_buffer most_bytes bound_fault bound_answer close_fault frame_bytes close_answer close_buffer read_numbers read_line decimal_f decimal printed replied on_line program hex_f hex list0 list1 index slots0 slots1
opened = 0
