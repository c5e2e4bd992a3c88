-- Document 01, "Sessions to hold", A to K: one list, and the statement over it; and of document 02 lists of sessions for needs (W-201),
-- for recordings (W-205), for edition 2 (W-211) and for the larger room (W-206). Assumes nothing.
use Rattle.std.specs.Prelude.{◌≡◌, List, [], ◌∷◌, ◌++◌, map, ℕ, zero, suc, ◌-◌, ltb, replicate}
use Rattle.std.proofs.Math.Option.{Option, none, some}
use Prim.Native.Char.{code}
use Prim.Native.String.{String}
use Rattle.rules.specs.Sizes.{Room, base}
use Rattle.rules.specs.Slots.{Slots, Place, by_head, lowest, exactly_at, placing}
use Rattle.rules.specs.Frames.{Outcome, accepted, refused_at}
use Rattle.rules.specs.Text.{list_text}
use Rattle.rules.specs.Recordings.{recording}
use Rattle.rules.specs.Entries.{translated, recorded_on, ran_on, outcome_text, run_text, recorded_text, runner_prints}

-- a text's characters as bytes
unfoldable pub bytes : String → List ℕ
bytes String.[] = []
bytes (String.◌∷◌ c s) = code c ∷ bytes s

-- a script, what the translator prints for it, and what its list prints on a frame of exactly its size
pub record Session : Type 0 where
  pub script : List ℕ
  pub list : List ℕ
  pub output : List ℕ

abbrev session : String → String → String → Session
session s l o = record { script = bytes s; list = bytes l; output = bytes o }

unfoldable pub sessions : List Session
sessions =
    -- A empty script
    session "" "900000\n" ""
    -- B linear 0
    ∷ session "080000\n" "08ffff\n900000\n" ""
    -- C the whole session
    ∷ session
    "01\n080003\n10000100ff\n0900070001\n120007\n0e0001\n0c0002\n020001\n0f\n06\n05\n"
    "010001\n080000\n10000100ff\n09\n120001\n0e\n0c\n02\n0f0003000200000001\n060000\n05\n900003\n"
    "a000ff\n"
    -- D two allocs, free 0, alloc: 0
    ∷ session "06\n06\n0c0000\n06\n" "060000\n060001\n0c\n060000\n900002\n" ""
    -- E two allocs, free 0, linear 2: 2, 3
    ∷ session "06\n06\n0c0000\n080002\n" "060000\n060001\n0c\n080002\n900004\n" ""
    -- F the same, linear 1: 0
    ∷ session "06\n06\n0c0000\n080001\n" "060000\n060001\n0c\n080000\n900002\n" ""
    -- G child, alloc, pop 1, alloc, free 0: refused 14
    ∷ session "01\n06\n020001\n06\n0c0000\n" "ee0e0004\n" ""
    -- H child, dangle 1, pop 1: 5
    ∷ session "01\n030001\n020001\n" "ee050002\n" ""
    -- I child, child, pop 1: 6
    ∷ session "01\n01\n020001\n" "ee060002\n" ""
    -- J two allocs, define 7 as 0, take 7, define 7 as 1, get 7: address 1
    ∷ session "06\n06\n0900070000\n0b0007\n0900070001\n0a0007\n" "060000\n060001\n09\n0b0000\n09\n0a0001\n900002\n" ""
    -- K child, alloc in 0, free 0, alloc: 1
    ∷ session "01\n070000\n0c0000\n06\n" "010001\n070000\n0c\n060001\n900002\n" ""
    ∷ []

-- n times the same
unfoldable pub repeated : ℕ → List ℕ → List ℕ
repeated zero l = []
repeated (suc n) l = l ++ repeated n l

-- n times r, then s; refused by the line l
abbrev after : ℕ → String → String → String → Session
after n r s l = record { script = repeated n (bytes r) ++ bytes s; list = bytes l; output = [] }

unfoldable pub need_sessions : List Session
need_sessions =
    -- the three kinds of need, their output, and a need's handle written, read and named
    session "01\n200001\n22\n06\n210000\n230000\n240000\n1000010009\n110001\n0900070001\n120007\n230001\n240001\n230002\n240002\n250000\n250001\n250002\n0f\n" "010001\n200000\n220001\n060000\n210002\n230001\n240001\n1000010009\n110001\n09\n120001\n23ffff\n24ffff\n230000\n240000\n25\n25\n25\n0f00010001\n900002\n" "a00009\na00009\n"
    -- a second 23 takes no handle: the next one is the alloc's, and may be freed
    ∷ session "200000\n230000\n230000\n06\n1000010007\n110001\n0c0001\n" "200000\n230000\n230000\n060001\n1000010007\n110001\n0c\n900002\n" "a00007\n"
    -- a deferred need is allocated in its scope, which need not be the top
    ∷ session "200000\n01\n230000\n06\n020001\n0f\n240000\n" "200000\n010001\n230000\n060001\n02\n0f00010001\n240000\n900002\n" ""
    -- 0c, 0d and 0e of a need's handle: 13
    ∷ session "200000\n230000\n0c0000\n" "ee0d0002\n" ""
    ∷ session "200000\n230000\n0d0000\n" "ee0d0002\n" ""
    ∷ session "200000\n230000\n0e0000\n" "ee0d0002\n" ""
    -- and after 25, when it is Freed
    ∷ session "200000\n230000\n250000\n0c0000\n" "ee0d0003\n" ""
    -- 21 need unknown
    ∷ session "230000\n" "ee150000\n" ""
    ∷ session "22\n240001\n" "ee150001\n" ""
    ∷ session "250000\n" "ee150000\n" ""
    -- 21 need freed
    ∷ session "22\n250000\n230000\n" "ee150002\n" ""
    ∷ session "22\n250000\n240000\n" "ee150002\n" ""
    ∷ session "22\n250000\n250000\n" "ee150002\n" ""
    -- 18 on 24 of a deferred need
    ∷ session "200000\n240000\n" "ee120001\n" ""
    -- 4 on 20, 13 on 21
    ∷ session "200005\n" "ee040000\n" ""
    ∷ session "06\n210001\n" "ee0d0001\n" ""
    -- 21 of a freed handle
    ∷ session "06\n0c0000\n210000\n240000\n" "060000\n0c\n210000\n240000\n900001\n" ""
    -- on 23 of a deferred need 4: its scope has closed, also where its index was used again
    ∷ session "01\n200001\n020001\n230000\n" "ee040003\n" ""
    ∷ session "01\n200001\n020001\n01\n230000\n" "ee040004\n" ""
    -- 65 needs
    ∷ after 65 "22\n" "" "ee160040\n"
    -- 22 after 4 or 13
    ∷ after 64 "22\n" "200001\n" "ee040040\n"
    ∷ after 64 "22\n" "200000\n" "ee160040\n"
    ∷ after 64 "22\n" "210000\n" "ee0d0040\n"
    ∷ after 64 "22\n" "22\n" "ee160040\n"
    -- freed needs count
    ∷ after 64 "22\n" "250000\n22\n" "ee160041\n"
    -- 23 of an allocated need whose scope has closed
    ∷ session "01\n200001\n230000\n020001\n230000\n" "010001\n200000\n230000\n02\n230000\n900001\n" ""
    -- 09 of a need's handle, until 25
    ∷ session "200000\n230000\n0900070000\n" "200000\n230000\n09\n900001\n" ""
    ∷ session "200000\n230000\n250000\n0900070000\n" "ee0d0003\n" ""
    -- 21 of a handle that isn't held, or is a need's
    ∷ session "01\n06\n020001\n210000\n" "010001\n060000\n02\n210000\n900001\n" ""
    ∷ session "200000\n230000\n210000\n250001\n240000\n0c0000\n" "ee0d0005\n" ""
    -- 25 of a need by 21 leaves the handle as it is
    ∷ session "06\n210000\n250000\n0c0000\n" "060000\n210000\n25\n0c\n900001\n" ""
    -- 25 away from its scope: the slot is kept and still readable
    ∷ session "200000\n230000\n1000000005\n01\n250000\n110000\n" "200000\n230000\n1000000005\n010001\n25\n110000\n900001\n" "a00005\n"
    -- 25 gives the slot back, which dangles
    ∷ session "200000\n230000\n250000\n0f\n" "200000\n230000\n25\n0f00010000\n900001\n" ""
    ∷ session "200000\n230000\n1000000005\n250000\n110000\n" "ee0e0004\n" ""
    -- after 05
    ∷ session "05\n22\n230000\n" "05\n220000\n23ffff\n900000\n" ""
    ∷ session "06\n05\n210000\n230000\n240000\n250000\n" "060000\n05\n210000\n230000\n240000\n25\n900001\n" ""
    -- root's need, freed after 05
    ∷ session "200000\n230000\n05\n250000\n" "200000\n230000\n05\n25\n900001\n" ""
    -- 25 after its scope was closed, and its index used again
    ∷ session "01\n200001\n230000\n020001\n01\n250000\n06\n" "010001\n200000\n230000\n02\n010002\n25\n060000\n900001\n" ""
    ∷ []

-- 4 before 16 before 7 on 23 of a deferred need: in one segment, where the script has filled it, with no handle more and with one
unfoldable pub narrow : ℕ → Room
narrow handles =
    record { segments = 1; scopes = base.scopes; bindings = base.bindings; handles = handles; needs = base.needs; lines = base.lines; size = base.size; text = base.text }

unfoldable pub no_handle : List Session
no_handle =
    session "01\n200001\n020001\n080080\n230000\n" "ee040004\n" ""
    ∷ session "080080\n200000\n230000\n" "ee100002\n" ""
    ∷ []

unfoldable pub one_handle : List Session
one_handle = session "080080\n200000\n230000\n" "ee070002\n" "" ∷ []

-- W-205: 14 is refused as 10 is, and its list without a recording by 23
unfoldable pub sample_sessions : List Session
sample_sessions =
    session "06\n140000\n110000\n" "060000\n140000\n110000\n900001\n" "ee170001\n"
    ∷ session "140000\n" "ee0d0000\n" ""
    ∷ session "01\n06\n020001\n140000\n" "ee0e0003\n" ""
    -- a Freed handle that is still held may be written
    ∷ session "06\n0e0000\n140000\n110000\n" "060000\n0e\n140000\n110000\n900001\n" "ee170002\n"
    ∷ []

-- a list, a recording, so many cells, and what is printed for them
pub record RecordedSession : Type 0 where
  pub list : List ℕ
  pub samples : List ℕ
  pub cells : ℕ
  pub output : List ℕ

abbrev beside : String → String → ℕ → String → RecordedSession
beside l s n o = record { list = bytes l; samples = bytes s; cells = n; output = bytes o }

unfoldable pub recorded_sessions : List RecordedSession
recorded_sessions =
    -- the samples in order, each used once; one is left over
    beside "140000\n110000\n140000\n110000\n900001\n" "300001\n30beef\n300003\n" 1 "a00001\na0beef\na100000001\n"
    -- no 14: all are left over
    ∷ beside "900000\n" "300001\n300002\n" 0 "a100000002\n"
    -- 1 and 2 before 20, 20 before 24
    ∷ beside "14\n900000\n" "x" 0 "ee010000\n"
    ∷ beside "140001\n900001\n" "x" 1 "ee140000\n"
    -- 24 beside a list without 14
    ∷ beside "900000\n" "x" 0 "ee1800000000\n"
    -- 24 before 23, wherever the malformed line stands
    ∷ beside "140000\n140000\n900001\n" "300001\n30000\n" 1 "ee1800000001\n"
    ∷ beside "900000\n" "300001\n300002\n30000a\n310000\n" 0 "ee1800000003\n"
    -- a torn last line; digits are lowercase
    ∷ beside "140000\n900001\n" "300001" 1 "ee1800000000\n"
    ∷ beside "140000\n900001\n" "30000A\n" 1 "ee1800000000\n"
    -- 23 before 17, at the first 14 without a sample
    ∷ beside "140000\n900001\n" "" 0 "ee170000\n"
    ∷ beside "140000\n0f0000\n140000\n900001\n" "300001\n" 1 "ee170002\n"
    ∷ beside "140000\n900001\n" "300001\n" 0 "ee110000\n"
    ∷ []

-- W-211
unfoldable pub edition_sessions : List Session
edition_sessions =
    -- the title alone; its list line repeats it, and it prints nothing
    session "f00002\n" "f00002\n900000\n" ""
    ∷ session "f00002\n06\n1000000007\n110000\n" "f00002\n060000\n1000000007\n110000\n900001\n" "a00007\n"
    -- it counts as a frame
    ∷ session "f00002\n110000\n" "ee0d0001\n" ""
    -- `f0` with another number, or on a later line; torn, too short, too long
    ∷ session "f00001\n" "ee010000\n" ""
    ∷ session "f00003\n" "ee010000\n" ""
    ∷ session "06\nf00002\n" "ee010001\n" ""
    ∷ session "f00002\nf00002\n" "ee010001\n" ""
    ∷ session "f00002" "ee010000\n" ""
    ∷ session "f0\n" "ee010000\n" ""
    ∷ session "f000020002\n" "ee010000\n" ""
    -- slots 0 and 130 are clear, and 130 was removed last: edition 1 gives 130, edition 2 gives 0
    ∷ session "080083\n0d0000\n0d0082\n06\n" "080000\n0d\n0d\n060082\n900083\n" ""
    ∷ session "f00002\n080083\n0d0000\n0d0082\n06\n" "f00002\n080000\n0d\n0d\n060000\n900083\n" ""
    -- so do 07, a run of one, and the first 23; a run of two is pushed
    ∷ session "f00002\n080083\n0d0000\n0d0082\n070000\n" "f00002\n080000\n0d\n0d\n070000\n900083\n" ""
    ∷ session "f00002\n080083\n0d0000\n0d0082\n080001\n" "f00002\n080000\n0d\n0d\n080000\n900083\n" ""
    ∷ session "f00002\n080083\n0d0000\n0d0082\n200000\n230000\n" "f00002\n080000\n0d\n0d\n200000\n230000\n900083\n" ""
    ∷ session "f00002\n080083\n0d0000\n0d0081\n080002\n" "f00002\n080000\n0d\n0d\n080083\n900085\n" ""
    ∷ []

-- two segments, all held but one slot below the head: edition 1 refuses by 7, edition 2 when that slot is held too
unfoldable pub two_segments : Room
two_segments =
    record { segments = 2; scopes = base.scopes; bindings = base.bindings; handles = base.handles; needs = base.needs; lines = base.lines; size = base.size; text = base.text }

unfoldable pub one_hole : List Session
one_hole =
    session "080100\n0d0005\n0d00ff\n06\n06\n" "ee070004\n" ""
    ∷ session "f00002\n080100\n0d0005\n0d00ff\n06\n06\n" "f00002\n080000\n0d\n0d\n060005\n0600ff\n900100\n" ""
    ∷ session "f00002\n080100\n0d0005\n0d00ff\n06\n06\n06\n" "ee070006\n" ""
    ∷ []

-- lists with a title, beside an empty recording
unfoldable pub titled_lists : List RecordedSession
titled_lists =
    beside "f00002\n100000beef\n110000\n900001\n" "" 1 "a0beef\na100000000\n"
    -- the title counts as a line: 20, 23, a missing size line
    ∷ beside "f00002\n110001\n900001\n" "" 1 "ee140001\n"
    ∷ beside "f00002\n140000\n900001\n" "" 1 "ee170001\n"
    ∷ beside "f00002\n" "" 0 "ee010001\n"
    ∷ beside "f00003\n900000\n" "" 0 "ee010000\n"
    ∷ beside "0f0000\nf00002\n900000\n" "" 0 "ee010001\n"
    ∷ beside "f00002\nf00002\n900000\n" "" 0 "ee010001\n"
    ∷ []

-- W-206: a run of more slots than there are, up to as many as there are handles and one more
unfoldable pub long_runs : List Session
long_runs =
    session "081001\n" "ee070000\n" ""
    ∷ session "082000\n" "ee070000\n" ""
    ∷ session "082001\n" "ee100000\n" ""
    ∷ []

-- "slots to 4,096": where an alloc goes when the slots below n are held and the head is at the last segment; by each placement
unfoldable pub alloc_behind : ℕ → Place → Option ℕ
alloc_behind n p =
    let s : Slots = record { occupied = λ a. ltb a n; segments = base.segments; head = base.segments - 1 } in
    elim (placing base.segments p 1 s) [ none ↦ none | some x ↦ some x.address ]

abbrev pub GoesBehind : ℕ → Option ℕ → Type 0
GoesBehind n o = (alloc_behind n by_head ≡ o) × (alloc_behind n lowest ≡ o) × (alloc_behind n (exactly_at n) ≡ o)

-- a list, and what the frame machine's program prints for it
pub record ListSession : Type 0 where
  pub list : List ℕ
  pub output : List ℕ

abbrev alone : String → String → ListSession
alone l o = record { list = bytes l; output = bytes o }

-- "The size line may go up to 4,096."
unfoldable pub size_lines : List ListSession
size_lines = alone "901000\n" "" ∷ alone "901001\n" "ee010000\n" ∷ []

-- what an accepted script's list prints; nothing is run where it was refused
abbrev pub list_prints : Room → Outcome → List ℕ
list_prints room (accepted ls size) = run_text (ran_on room (replicate size 0) (list_text ls size))
list_prints room (refused_at n i) = []

-- the session of a script, and of a list beside a recording, as the rules have it
abbrev pub session_of : Room → List ℕ → Session
session_of room script =
    let o : Outcome = translated room script in
    record { script = script; list = outcome_text o; output = list_prints room o }

abbrev pub recorded_session_of : RecordedSession → RecordedSession
recorded_session_of s =
    record {
      list = s.list;
      samples = s.samples;
      cells = s.cells;
      output = recorded_text (recorded_on base (replicate s.cells 0) (recording s.samples) s.list);
    }

abbrev pub list_session_of : ListSession → ListSession
list_session_of s = record { list = s.list; output = runner_prints base s.list }

-- each session is as the rules say
abbrev pub Hold : Room → List Session → Type 0
Hold room l = map (λ s. session_of room s.script) l ≡ l

unfoldable pub SessionsHold : Type 0
SessionsHold = Hold base sessions

unfoldable pub NeedSessionsHold : Type 0
NeedSessionsHold = Hold base need_sessions × Hold (narrow 128) no_handle × Hold (narrow 129) one_handle

unfoldable pub RecordedSessionsHold : Type 0
RecordedSessionsHold = Hold base sample_sessions × (map recorded_session_of recorded_sessions ≡ recorded_sessions)

unfoldable pub EditionSessionsHold : Type 0
EditionSessionsHold = Hold base edition_sessions × Hold two_segments one_hole × (map recorded_session_of titled_lists ≡ titled_lists)

unfoldable pub RoomSessionsHold : Type 0
RoomSessionsHold = Hold base long_runs × GoesBehind 4095 (some 4095) × GoesBehind 4096 none × (map list_session_of size_lines ≡ size_lines)
