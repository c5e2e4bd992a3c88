-- What a program prints, by what it read. Assumes nothing.
use Rattle.std.specs.Prelude.{◌≡◌, List, [], ◌++◌, ◌⊎◌, ℕ, length, take, Option, Some, None, IfSome}
use Rattle.rules.specs.Sizes.{base, LONGER}
use Rattle.rules.specs.Entries.{translator_prints, runner_prints}
use Rattle.rules.specs.Suppliers.{checker_prints}
use Rattle.input.specs.Within.{Within}
use Rattle.input.specs.declared.Input.{Input}
use Rattle.input.specs.declared.Input.TheVariants.{Whole, Full}
use Rattle.answers.specs.Prints.{Prints}
use Rattle.programs.specs.declared.Program.{Program}
use Rattle.programs.specs.declared.Program.TheVariants.{Translator, Runner}

-- which of the rules' texts a program of one input prints
abbrev pub printed_by : Program → List ℕ → List ℕ
printed_by Translator text = translator_prints base text
printed_by Runner text = runner_prints base text

-- a program's buffer, by its type, and what was read into it
abbrev pub ReadInto : Option Input → List ℕ → Type 0
ReadInto read buffer = (length buffer ≡ LONGER) × IfSome read (λ r. Within r LONGER)

-- the bytes that are handed on: the buffer's first n; or the whole of a full buffer
pub record HandedOn (read : Input) (buffer text : List ℕ) : Type 0 where
  pub whole : (n : ℕ) → read ≡ Whole n → text ≡ take n buffer
  pub full : read ≡ Full → text ≡ buffer

-- The input that this was read of: the buffer's first n bytes; or the whole buffer and whatever follows, for where it is full more may follow.
pub data ReadOf (read : Option Input) (buffer input : List ℕ) : Type 0 where
  all : (n : ℕ) → read ≡ Some (Whole n) → input ≡ take n buffer → ReadOf read buffer input
  part : (more : List ℕ) → read ≡ Some Full → input ≡ buffer ++ more → ReadOf read buffer input

-- Whichever input it is, what is printed is what the rules have printed for it; and nothing where a read failed.
pub record Answers (printed : List ℕ → List ℕ) (read : Option Input) (buffer out : List ℕ) (r : ℕ) (out' : List ℕ) : Type 0 where
  pub prints : (input : List ℕ) → ReadOf read buffer input → Prints (printed input) out r out'
  pub fails : read ≡ None → Prints [] out r out'

-- The same of a script and a list, for the checking program.
pub record AnswersBoth (first : Option Input) (script : List ℕ) (second : Option Input) (list out : List ℕ) (r : ℕ) (out' : List ℕ) : Type 0 where
  pub prints : (s l : List ℕ) → ReadOf first script s → ReadOf second list l → Prints (checker_prints base s l) out r out'
  pub fails : (first ≡ None) ⊎ (second ≡ None) → Prints [] out r out'
