-- Sessions A to K, and those of document 02, by computation. Assumes nothing.
use mathlib.Core.Path.{refl}
use Rattle.rules.specs.Notation.{◌>>=◌, refuse◌when◌, refuse◌unless◌, provided◌then◌else◌, put, first, past_last, all_below}
use Rattle.rules.specs.Sizes.{base}
use Rattle.rules.specs.Slots.{fresh_slots, clear_in, first_with_clear, insert_into, insert_new, insert, past_greatest, push_at, pushes, push_run, removes, remove, remove_all, edition1, lowest_of_all, take_at, insert_lowest, edition2, vacant, take_run, exactly, placing}
use Rattle.rules.specs.AddressSets.{member, added, without, added_all, without_all, run}
use Rattle.rules.specs.Scopes.{fresh_scopes, top_scope, by_id, by_number, has_child, set_scope, open_child, allocate, unbound, closed, poppable, last_poppable, dangle_scope, restore_scope, bound_in, rebound, bind_in, lookup, get_name, take_name, drain_dangling}
use Rattle.rules.specs.Needs.{run_kind, goes_back, give_back, output_of}
use Rattle.rules.specs.Frames.{start, set_handle, unknown, spent, belongs, barred, grant, let_go, allot, close, hand_back, free_as, free_handle, set_need, add_need, lost, allot_need, free_own, step, onward, steps}
use Rattle.rules.specs.Meaning.{obey, high, list_takes, lacking}
use Rattle.rules.specs.Text.{digit, hex2, hex4, value, word, words, raw, split, rowed, line_of, frame_table, script_from, hexes, line_text, list_text, line_table, size_table, list_from, title_table, titled, read_script, read_list}
use Rattle.rules.specs.Entries.{outcome, translated, run_listed, recorded_on, ran_on, load_text, loads_text, ee_text, outcome_text, run_text, malformed_text, left_text, recorded_text, unless_longer, runner_prints}
use Rattle.rules.specs.Recordings.{sample_table, recording_from, recording}
use Rattle.rules.specs.Sessions.{bytes, sessions, repeated, need_sessions, narrow, no_handle, one_handle, sample_sessions, recorded_sessions, edition_sessions, two_segments, one_hole, titled_lists, SessionsHold, NeedSessionsHold, RecordedSessionsHold, EditionSessionsHold, long_runs, alloc_behind, size_lines, RoomSessionsHold}

pub sessions-hold : SessionsHold
unfolding SessionsHold sessions bytes ◌>>=◌ refuse◌when◌ refuse◌unless◌ provided◌then◌else◌ put first past_last base fresh_slots clear_in first_with_clear insert_into insert_new insert past_greatest push_at pushes push_run removes remove remove_all edition1 placing member added without added_all without_all run fresh_scopes top_scope by_id by_number has_child set_scope open_child allocate unbound closed poppable last_poppable dangle_scope restore_scope bound_in rebound bind_in lookup get_name take_name drain_dangling run_kind goes_back give_back output_of start set_handle unknown spent belongs barred grant let_go allot close hand_back free_as free_handle set_need add_need lost allot_need free_own step onward steps obey high digit hex2 hex4 value word words raw split rowed line_of frame_table script_from hexes line_text list_text line_table size_table list_from title_table titled read_script read_list outcome translated list_takes lacking run_listed recorded_on ran_on load_text loads_text ee_text outcome_text run_text
sessions-hold = refl

pub need-sessions-hold : NeedSessionsHold
unfolding NeedSessionsHold need_sessions narrow no_handle one_handle repeated bytes ◌>>=◌ refuse◌when◌ refuse◌unless◌ provided◌then◌else◌ put first past_last base fresh_slots clear_in first_with_clear insert_into insert_new insert past_greatest push_at pushes push_run removes remove remove_all edition1 placing member added without added_all without_all run fresh_scopes top_scope by_id by_number has_child set_scope open_child allocate unbound closed poppable last_poppable dangle_scope restore_scope bound_in rebound bind_in lookup get_name take_name drain_dangling run_kind goes_back give_back output_of start set_handle unknown spent belongs barred grant let_go allot close hand_back free_as free_handle set_need add_need lost allot_need free_own step onward steps obey high digit hex2 hex4 value word words raw split rowed line_of frame_table script_from hexes line_text list_text line_table size_table list_from title_table titled read_script read_list outcome translated list_takes lacking run_listed recorded_on ran_on load_text loads_text ee_text outcome_text run_text
need-sessions-hold = (refl, refl, refl)

pub recorded-sessions-hold : RecordedSessionsHold
unfolding RecordedSessionsHold sample_sessions recorded_sessions sample_table recording_from recording malformed_text left_text recorded_text bytes ◌>>=◌ refuse◌when◌ refuse◌unless◌ provided◌then◌else◌ put first past_last base fresh_slots clear_in first_with_clear insert_into insert_new insert past_greatest push_at pushes push_run removes remove remove_all edition1 placing member added without added_all without_all run fresh_scopes top_scope by_id by_number has_child set_scope open_child allocate unbound closed poppable last_poppable dangle_scope restore_scope bound_in rebound bind_in lookup get_name take_name drain_dangling run_kind goes_back give_back output_of start set_handle unknown spent belongs barred grant let_go allot close hand_back free_as free_handle set_need add_need lost allot_need free_own step onward steps obey high digit hex2 hex4 value word words raw split rowed line_of frame_table script_from hexes line_text list_text line_table size_table list_from title_table titled read_script read_list outcome translated list_takes lacking run_listed recorded_on ran_on load_text loads_text ee_text outcome_text run_text
recorded-sessions-hold = (refl, refl)

pub edition-sessions-hold : EditionSessionsHold
unfolding EditionSessionsHold edition_sessions two_segments one_hole titled_lists sample_table recording_from recording malformed_text left_text recorded_text bytes ◌>>=◌ refuse◌when◌ refuse◌unless◌ provided◌then◌else◌ put first past_last base fresh_slots clear_in first_with_clear insert_into insert_new insert past_greatest push_at pushes push_run removes remove remove_all edition1 lowest_of_all take_at insert_lowest edition2 placing member added without added_all without_all run fresh_scopes top_scope by_id by_number has_child set_scope open_child allocate unbound closed poppable last_poppable dangle_scope restore_scope bound_in rebound bind_in lookup get_name take_name drain_dangling run_kind goes_back give_back output_of start set_handle unknown spent belongs barred grant let_go allot close hand_back free_as free_handle set_need add_need lost allot_need free_own step onward steps obey high digit hex2 hex4 value word words raw split rowed line_of frame_table script_from hexes line_text list_text line_table size_table list_from title_table titled read_script read_list outcome translated list_takes lacking run_listed recorded_on ran_on load_text loads_text ee_text outcome_text run_text
edition-sessions-hold = (refl, refl, refl)

pub room-sessions-hold : RoomSessionsHold
unfolding RoomSessionsHold alloc_behind lowest_of_all take_at insert_lowest edition2 vacant take_run exactly all_below long_runs size_lines unless_longer runner_prints bytes ◌>>=◌ refuse◌when◌ refuse◌unless◌ provided◌then◌else◌ put first past_last base fresh_slots clear_in first_with_clear insert_into insert_new insert past_greatest push_at pushes push_run removes remove remove_all edition1 placing member added without added_all without_all run fresh_scopes top_scope by_id by_number has_child set_scope open_child allocate unbound closed poppable last_poppable dangle_scope restore_scope bound_in rebound bind_in lookup get_name take_name drain_dangling run_kind goes_back give_back output_of start set_handle unknown spent belongs barred grant let_go allot close hand_back free_as free_handle set_need add_need lost allot_need free_own step onward steps obey high digit hex2 hex4 value word words raw split rowed line_of frame_table script_from hexes line_text list_text line_table size_table list_from title_table titled read_script read_list outcome translated list_takes lacking run_listed recorded_on ran_on load_text loads_text ee_text outcome_text run_text
room-sessions-hold = (refl, (refl, refl, refl), (refl, refl, refl), refl)
