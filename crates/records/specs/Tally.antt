-- The records of a text, replayed and counted. Assumes nothing.
use Rattle.std.specs.Prelude.{Bool, true, false, List, ℕ, zero, suc, ◌+◌, ◌-◌, length, take, drop, ltb, eqb, Some, None}
use Rattle.rules.specs.Sizes.{base}
use Rattle.rules.specs.Entries.{translator_prints}
use Rattle.records.specs.declared.Record.{Record}
use Rattle.records.specs.declared.tally.Tally.{Tally}
use Rattle.records.specs.Records.{same_text, record_at}

-- the bytes from a on, below e
abbrev pub part : ℕ → ℕ → List ℕ → List ℕ
part a e s = take (e - a) (drop a s)

-- whether the answer from b to e is what the rules have the translating program print for the script from a to b
abbrev pub agrees : List ℕ → ℕ → ℕ → ℕ → Bool
agrees s a b e = same_text (translator_prints base (part a b s)) (part b e s)

abbrev pub tally : ℕ → ℕ → ℕ → Bool → Tally
tally n d f b = record { records = n; differ = d; first = f; broken = b }

abbrev pub no_records : Tally
no_records = tally 0 0 0 false

-- one more record, which agrees or not; the first that doesn't is remembered
unfoldable pub one_more : Tally → Bool → Tally
one_more t true = tally (t.records + 1) t.differ t.first false
one_more t false = tally (t.records + 1) (t.differ + 1) (elim (eqb t.differ 0) [ true ↦ t.records + 1 | false ↦ t.first ]) false

-- the records from p on, with t before them: to the end of the text, or to a broken one. A text has no more records than bytes
unfoldable pub tallied : ℕ → List ℕ → ℕ → Tally → Tally
tallied zero s p t = t
tallied (suc k) s p t =
    elim (ltb p (length s)) [
      | false ↦ t
      | true ↦ elim (record_at s p) [
        | None ↦ tally t.records t.differ t.first true
        | Some r ↦ tallied k s r.end (one_more t (agrees s r.script r.answer r.end))
      ]
    ]
