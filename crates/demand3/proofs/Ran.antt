-- A run of a list of which demand 3 holds, as of that of an accepted script: with samples enough it comes to 17 or to the script's meaning,
-- otherwise to 23. Assumes nothing.
use mathlib.Core.Path.{◌≡◌, ap, ◌∙◌}
use mathlib.Core.Option.{none, some}
use mathlib.Core.List.{List, ◌++◌}
use Prim.Native.Nat.{ℕ, ◌-◌, ◌≤◌, ◌<◌}
use native.Mathlib.Omega.{arith}
use lib.ListN.{length, replicate, drop}
use borrow.Author.Tests.{le-ltb, lt-ltb}
use Rattle.rules.specs.Sizes.{base}
use Rattle.rules.specs.Slots.{placing}
use Rattle.rules.specs.Frames.{Line}
use Rattle.rules.specs.Meaning.{Ran, obey, high, list_takes, lacking}
use Rattle.rules.specs.Text.{read_script, list_text, listed, read_list}
use Rattle.rules.specs.Recordings.{recorded}
use Rattle.rules.specs.Entries.{ran, stopped, run_sampled, run_listed, recorded_on}
use Rattle.rules.specs.Demand3.{Runs, script_meaning, script_takes}
use Rattle.rules.proofs.Bytes.{Held, runs as run_of}
use Rattle.rules.proofs.Taking.{enough}
use Rattle.demand3.specs.Promises.{means, takes}

module _ (script : List ℕ) (ls : List Line) (size : ℕ) (ok : Held base script ls size) where
  pub reads : read_list base (list_text ls size) ≡ listed ls size
  reads = ok.back

  -- no 20 in it
  pub below : high size 0 ls ≡ none
  below = ok.holds.inside

  pub as_many : list_takes ls ≡ takes script
  unfolding script_takes
  as_many = rw (ok.read, script_takes) ok.holds.samples

  pub lacks : (cells : List ℕ) (n i : ℕ) (vs : List ℕ) → lacking 0 n ls ≡ some i → recorded_on base cells (recorded n vs) (list_text ls size) ≡ stopped 23 i
  unfolding recorded_on run_listed
  lacks cells n i vs e = rw (reads, below, e, run_listed, run_sampled)

  module _ (n : ℕ) (vs : List ℕ) (many : takes script ≤ n) (kept : takes script ≤ length vs) where
    none-lacks : lacking 0 n ls ≡ none
    none-lacks = enough ls 0 n (omega (arith, as_many))

    all-kept : list_takes ls ≤ length vs
    all-kept = omega (arith, as_many)

    pub ran-short : (cells : List ℕ) → length cells < size → recorded_on base cells (recorded n vs) (list_text ls size) ≡ stopped 17 0
    unfolding recorded_on run_listed
    ran-short cells h = rw (reads, below, none-lacks, lt-ltb (length cells) size h, run_listed, run_sampled)

    module _ (cells : List ℕ) (h : size ≤ length cells) where
      abbrev pub worked : Ran
      worked = obey (replicate size 0 ++ drop size cells) vs ls

      pub ran_on_lem : recorded_on base cells (recorded n vs) (list_text ls size) ≡ ran worked (n - takes script)
      unfolding recorded_on run_listed
      ran_on_lem =
          rw (reads, below, none-lacks, le-ltb (length cells) size h, le-ltb (length vs) (list_takes ls) all-kept, run_listed, run_sampled)
          (ap (λ (k : ℕ). ran worked (n - k)) as_many)

      runs : Runs base size cells (recorded n vs) (list_text ls size) (means script vs) (n - takes script)
      unfolding script_meaning script_takes
      runs =
          rw (ok.read, script_meaning, script_takes)
          (run_of base (placing base.segments (read_script base script).place) ok.script-frames ls size cells (list_text ls size) n vs ok.holds h (rw (ok.read, script_takes) at many) (rw (ok.read, script_takes) at kept) ok.back)

      pub loaded : worked.loaded ≡ means script vs
      loaded = let x = ran_on_lem in let y = runs.runs in cc

      pub above : drop size worked.cells ≡ drop size cells
      above =
          let x = ran_on_lem in
          let y = runs.runs in
          let z : worked.cells ≡ runs.last = cc in
          ap (drop size) z ∙ runs.above
