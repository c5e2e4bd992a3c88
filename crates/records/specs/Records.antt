-- Stored answers as bytes (oracle/README.md): what a record is, and when two texts are one. Assumes nothing.
use Rattle.std.specs.Prelude.{Bool, true, false, ◌&&◌, ◌||◌, not, List, [], ◌∷◌, ℕ, ◌+◌, ◌*◌, ◌-◌, ◌≤◌, length, get_or, ltb, eqb, Option, Some, None}
use Rattle.std.proofs.Math.Seq.{slice}
use Rattle.rules.specs.Text.{value}
use Rattle.text.specs.Lines.{word_at}
use Rattle.records.specs.declared.Record.{Record}

-- whether two texts are one, byte for byte
unfoldable pub same_text : List ℕ → List ℕ → Bool
same_text [] [] = true
same_text [] (b ∷ m) = false
same_text (a ∷ l) [] = false
same_text (a ∷ l) (b ∷ m) = elim (eqb a b) [ true ↦ same_text l m | false ↦ false ]

-- whose answer it is: o, r or m
unfoldable pub marked : ℕ → Bool
marked b = eqb b 0x6f || (eqb b 0x72 || eqb b 0x6d)

unfoldable pub all_hex : List ℕ → Bool
all_hex [] = true
all_hex (c ∷ l) = elim (ltb (value c) 16) [ true ↦ all_hex l | false ↦ false ]

-- a mark, sixteen digits, LF
unfoldable pub head_at : List ℕ → ℕ → Bool
head_at s p = marked (get_or s p 0) && (eqb (get_or s (p + 17) 0) 10 && all_hex (slice (p + 1) (p + 17) s))

-- the number that eight digits show
abbrev pub number_at : List ℕ → ℕ → ℕ
number_at s p = word_at s p * 65536 + word_at s (p + 4)

-- where a record's script and answer begin, and where the answer ends; none where it is broken
abbrev pub Found : Type 0
Found = Option Record

abbrev pub found : (script answer end : ℕ) → Record
found a b e = record { script = a; answer = b; end = e }

unfoldable pub broken_if : Bool → Found → Found
broken_if true f = None
broken_if false f = f

-- a record at p, by what is left from there and by its two lengths
abbrev pub record_by : ℕ → ℕ → ℕ → ℕ → Found
record_by p left a b =
    broken_if (ltb left 18) (broken_if (ltb (left - 18) a) (broken_if (ltb (left - 18 - a) b) (Some (found (p + 18) (p + 18 + a) (p + 18 + a + b)))))

unfoldable pub record_at : List ℕ → ℕ → Found
record_at s p = broken_if (not (head_at s p)) (record_by p (length s - p) (number_at s (p + 1)) (number_at s (p + 9)))

-- the parts of a record lie in a row behind its head, below n
abbrev pub Bounded : ℕ → ℕ → Found → Type 0
Bounded p n None = Unit {0}
Bounded p n (Some r) = (p + 18 ≤ r.script) × (r.script ≤ r.answer) × (r.answer ≤ r.end) × (r.end ≤ n)
