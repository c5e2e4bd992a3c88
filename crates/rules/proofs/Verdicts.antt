-- W-203 by example: what the rule says of small scripts and lists, by computation. Assumes nothing.
use mathlib.Core.Path.{◌≡◌, refl}
use mathlib.Core.Bool.{true, false}
use mathlib.Core.List.{List, [], ◌∷◌, map}
use Prim.Native.String.{String}
use Rattle.rules.specs.Notation.{◌>>=◌, refuse◌when◌, refuse◌unless◌, provided◌then◌else◌, put, first, past_last, all_below}
use Rattle.rules.specs.Sizes.{base}
use Rattle.rules.specs.Slots.{fresh_slots, clear_in, first_with_clear, insert_into, insert_new, insert, past_greatest, push_at, pushes, push_run, remove, remove_all, edition1, lowest_of_all, take_at, insert_lowest, edition2, vacant, take_run, exactly, placing}
use Rattle.rules.specs.AddressSets.{member, added, without, added_all, without_all, run}
use Rattle.rules.specs.Scopes.{fresh_scopes, top_scope, by_id, by_number, has_child, set_scope, open_child, allocate, unbound, closed, poppable, last_poppable, dangle_scope, restore_scope, bound_in, rebound, bind_in, lookup, get_name, take_name, drain_dangling}
use Rattle.rules.specs.Needs.{run_kind, goes_back, give_back, output_of}
use Rattle.rules.specs.Frames.{start, set_handle, unknown, spent, belongs, barred, grant, let_go, allot, close, hand_back, free_as, free_handle, set_need, add_need, lost, allot_need, free_own, step, onward, steps}
use Rattle.rules.specs.Text.{digit, value, word, words, raw, split, rowed, line_of, frame_table, script_from, line_table, size_table, list_from, title_table, titled, read_script, read_list}
use Rattle.rules.specs.Suppliers.{same_numbers, same_line, same_lines, as_shown, shown_steps, agrees_with, agrees, Verdict, says, unreadable, judged, verdict}
use Rattle.rules.specs.Sessions.{bytes}

-- a script, a list from elsewhere, and what is said of them
pub record Example : Type 0 where
  pub script : String
  pub list : String
  pub answer : Verdict

abbrev example : String → String → Verdict → Example
example s l v = record { script = s; list = l; answer = v }

unfoldable pub examples : List Example
examples =
    -- a script refused by a step, by 7 too: no
    example "081001\n" "080000\n901000\n" (says false)
    ∷ example "020001\n" "02\n900000\n" (says false)
    -- an address that isn't below the size: no, not 20
    ∷ example "06\n" "060001\n900001\n" (says false)
    -- a size larger than needed: yes
    ∷ example "06\n" "060000\n901000\n" (says true)
    -- the room's last slot, and past it
    ∷ example "06\n" "060fff\n901000\n" (says true)
    ∷ example "06\n" "061000\n901000\n" (says false)
    ∷ example "080002\n" "080fff\n901000\n" (says false)
    -- a name whose allocation is held no more shows that one's old address
    ∷ example "06\n0900070000\n0c0000\n0a0007\n" "060003\n09\n0c\n0a0003\n900005\n" (says true)
    ∷ example "06\n0900070000\n0c0000\n0a0007\n" "060003\n09\n0c\n0a0004\n900005\n" (says false)
    ∷ example "06\n1000000009\n0900070000\n120007\n0b0007\n" "060003\n1000030009\n09\n120003\n0b0003\n900004\n" (says true)
    -- drains over the list's own addresses: an address that is given leaves the dangling list
    ∷ example "06\n0c0000\n06\n0f\n" "060000\n0c\n060001\n0f00010000\n900002\n" (says true)
    ∷ example "06\n0c0000\n06\n0f\n" "060000\n0c\n060000\n0f0000\n900001\n" (says true)
    ∷ example "06\n0c0000\n06\n0f\n" "060000\n0c\n060001\n0f0000\n900002\n" (says false)
    ∷ example "01\n06\n06\n020001\n0f\n" "010001\n060009\n060002\n02\n0f000200090002\n90000a\n" (says true)
    ∷ example "01\n06\n06\n020001\n0f\n" "010001\n060009\n060002\n02\n0f000200020009\n90000a\n" (says false)
    -- no slot is given while another allocation holds it, also where it was freed away from its scope
    ∷ example "06\n06\n" "060000\n060000\n900001\n" (says false)
    ∷ example "01\n070000\n0c0000\n06\n" "010001\n070003\n0c\n060003\n900004\n" (says false)
    ∷ example "01\n070000\n0c0000\n06\n" "010001\n070003\n0c\n060000\n900004\n" (says true)
    -- a run is consecutive, and no slot of it is held
    ∷ example "080003\n1000020007\n110002\n" "080010\n1000120007\n110012\n900013\n" (says true)
    ∷ example "080003\n1000020007\n110002\n" "080010\n1000130007\n110013\n900014\n" (says false)
    ∷ example "06\n080002\n" "060005\n080004\n900006\n" (says false)
    ∷ example "06\n080002\n" "060005\n080003\n900006\n" (says true)
    -- an empty run shows ffff
    ∷ example "080000\n" "08ffff\n900000\n" (says true)
    ∷ example "080000\n" "080000\n900001\n" (says false)
    -- other operands, which aren't addresses: a value, a scope's number
    ∷ example "06\n1000000001\n" "060000\n1000000002\n900001\n" (says false)
    ∷ example "01\n" "010002\n900000\n" (says false)
    -- other lines, too few, too many
    ∷ example "06\n" "080000\n900001\n" (says false)
    ∷ example "06\n06\n" "060000\n900001\n" (says false)
    ∷ example "06\n" "060000\n060001\n900002\n" (says false)
    -- a deferred need placed elsewhere by 23, which shows its address again, as 24 does; its slot is held
    ∷ example "200000\n230000\n230000\n240000\n1000000009\n110000\n" "200000\n230007\n230007\n240007\n1000070009\n110007\n900008\n" (says true)
    ∷ example "200000\n230000\n230000\n" "200000\n230007\n230006\n900008\n" (says false)
    ∷ example "200000\n230000\n240000\n" "200000\n230007\n240000\n900008\n" (says false)
    ∷ example "200000\n230000\n06\n" "200000\n230007\n060007\n900008\n" (says false)
    ∷ example "200000\n230000\n250000\n06\n0f\n" "200000\n230007\n25\n060003\n0f00010007\n900008\n" (says true)
    -- an ignored need has no address
    ∷ example "22\n230000\n240000\n250000\n" "220000\n23ffff\n24ffff\n25\n900000\n" (says true)
    ∷ example "22\n230000\n" "220000\n230000\n900001\n" (says false)
    -- a need by 21 shows its handle's address; a need's number isn't an address
    ∷ example "06\n210000\n230000\n240000\n" "060003\n210000\n230003\n240003\n900004\n" (says true)
    ∷ example "06\n210000\n" "060003\n210003\n900004\n" (says false)
    -- a sample, at its handle's address
    ∷ example "06\n140000\n110000\n" "060002\n140002\n110002\n900003\n" (says true)
    ∷ example "06\n140000\n110000\n" "060002\n140001\n110002\n900003\n" (says false)
    ∷ example "06\n140000\n" "060002\n1000020000\n900003\n" (says false)
    -- the text numbers, script before list
    ∷ example "zz\n" "zz\n" (unreadable 1 0)
    ∷ example "06\nzz\n" "zz\n" (unreadable 1 1)
    ∷ example "06\n" "060000\n" (unreadable 1 1)
    ∷ example "081001\n" "zz\n" (unreadable 1 0)
    -- edition 2: the title is a line of both or of neither
    ∷ example "f00002\n" "f00002\n900000\n" (says true)
    ∷ example "f00002\n06\n0c0000\n06\n0f\n" "f00002\n060005\n0c\n060001\n0f00010005\n900006\n" (says true)
    ∷ example "f00002\n200000\n230000\n140000\n" "f00002\n200000\n230005\n140005\n900006\n" (says true)
    ∷ example "f00002\n06\n" "060000\n900001\n" (says false)
    ∷ example "06\n" "f00002\n060000\n900001\n" (says false)
    ∷ example "f00002\n" "900000\n" (says false)
    ∷ example "f00003\n" "900000\n" (unreadable 1 0)
    ∷ example "06\nf00002\n" "900000\n" (unreadable 1 1)
    ∷ example "f00002\nzz\n" "900000\n" (unreadable 1 1)
    ∷ example "06\n" "060000\nf00002\n900001\n" (unreadable 1 1)
    -- freed without dangling; beside one that dangles
    ∷ example "06\n0d0000\n0f\n" "060004\n0d\n0f0000\n900005\n" (says true)
    ∷ example "06\n0d0000\n0f\n" "060004\n0d\n0f00010004\n900005\n" (says false)
    ∷ example "06\n0c0000\n06\n0d0001\n0f\n" "060004\n0c\n060005\n0d\n0f00010004\n900006\n" (says true)
    -- a need by 21 of a handle that is Freed has its old address
    ∷ example "06\n0c0000\n06\n210000\n230000\n" "060003\n0c\n060005\n210000\n230003\n900006\n" (says true)
    ∷ example "06\n0c0000\n06\n210000\n230000\n" "060003\n0c\n060005\n210000\n230005\n900006\n" (says false)
    ∷ []

pub examples-hold : map (λ e. verdict base (bytes e.script) (bytes e.list)) examples ≡ map (λ e. e.answer) examples
unfolding examples bytes ◌>>=◌ refuse◌when◌ refuse◌unless◌ provided◌then◌else◌ put first past_last all_below base fresh_slots clear_in first_with_clear insert_into insert_new insert past_greatest push_at pushes push_run remove remove_all edition1 lowest_of_all take_at insert_lowest edition2 vacant take_run exactly placing member added without added_all without_all run fresh_scopes top_scope by_id by_number has_child set_scope open_child allocate unbound closed poppable last_poppable dangle_scope restore_scope bound_in rebound bind_in lookup get_name take_name drain_dangling run_kind goes_back give_back output_of start set_handle unknown spent belongs barred grant let_go allot close hand_back free_as free_handle set_need add_need lost allot_need free_own step onward steps digit value word words raw split rowed line_of frame_table script_from line_table size_table list_from title_table titled read_script read_list same_numbers same_line same_lines as_shown shown_steps agrees_with agrees judged verdict
examples-hold = refl
