-- What is printed for the bytes that were read is what is printed for the input. Assumes nothing.
use mathlib.Core.Path.{◌≡◌, refl, sym, ap, ◌∙◌}
use mathlib.Core.List.{List, [], ◌++◌}
use mathlib.Core.Logic.{◌⊎◌, inl, inr, by_cases}
use Prim.Native.Nat.{ℕ, ◌<◌}
use native.Mathlib.Omega.{arith}
use native.Mathlib.Decide.{dec_lt}
use lib.ListN.{length, length-append}
use Rattle.rules.specs.Sizes.{base, TEXT, LONGER}
use Rattle.rules.specs.Entries.{ee_text}
use Rattle.rules.specs.Suppliers.{checker_prints}
use Rattle.input.specs.Counts.{IsPrefixLen}
use Rattle.input.specs.declared.Input.{Input}
use Rattle.input.specs.declared.Input.TheVariants.{Whole, Full}
use Rattle.std.specs.declared.option.Option.{Option}
use Rattle.std.specs.declared.option.Option.TheVariants.{Some, None}
use Rattle.answers.specs.Prints.{Prints}
use Rattle.answers.proofs.Printed.{prints-one, prints-as, prints-in, prints-all}
use Rattle.answers.proofs.Answers.{script-longer, list-longer}
use Rattle.answers.proofs.Checked.{script-too-long, list-too-long}
use Rattle.programs.specs.declared.Program.{Program}
use Rattle.programs.specs.declared.Program.TheVariants.{Translator, Runner}
use Rattle.programs.specs.Printed.{printed_by, HandedOn, ReadOf, all, part, Answers, AnswersBoth}

-- ---- "a program refuses longer input by 17, whatever it holds"

abbrev pub RefusesLonger : (List ℕ → List ℕ) → Type 0
RefusesLonger printed = (input : List ℕ) → TEXT < length input → ee_text 17 0 ≡ printed input

pub one-longer : (p : Program) → RefusesLonger (printed_by p)
one-longer Translator input h = script-longer input h
one-longer Runner input h = list-longer input h

-- beside a script of any length
pub list-longer-too : (script : List ℕ) → RefusesLonger (checker_prints base script)
list-longer-too script list h = by_cases (dec_lt TEXT (length script)) (λ l. script-too-long script list l) (λ l. list-too-long script list (omega arith) h)

-- ---- the bytes that are handed on

-- of what was read, the text is handed on: the same is printed for it as for the input
pub record HandsOn (printed : List ℕ → List ℕ) (read : Option Input) (buffer text : List ℕ) : Type 0 where
  pub good : read ≡ None → ⊥
  pub same : (input : List ℕ) → ReadOf read buffer input → printed text ≡ printed input

pub hands : {printed : List ℕ → List ℕ} {read : Option Input} {some : Input} {buffer text : List ℕ} → read ≡ Some some → HandedOn some buffer text → length buffer ≡ LONGER → RefusesLonger printed
    → HandsOn printed read buffer text
hands {printed = printed} {read = read} {some = some} {buffer = buffer} {text = text} e h l longer = record { good = λ q. cc; same = go }
  where
    -- a full buffer is longer input, whatever follows
    go : (input : List ℕ) → ReadOf read buffer input → printed text ≡ printed input
    go input (all n q i) = let w : some ≡ Whole n = cc in ap printed (h.whole n w ∙ sym i)
    go input (part more q i) =
        let f : some ≡ Full = cc in
        ap printed (h.full f) ∙ sym (longer buffer (omega arith)) ∙ longer (buffer ++ more) (omega (arith, l, length-append buffer more)) ∙ sym (ap printed i)

-- nothing is handed on
nothing-of : (read : Option Input) (buffer : List ℕ) → read ≡ None → (input : List ℕ) → ReadOf read buffer input → ⊥
nothing-of read buffer e input (all n q i) = cc
nothing-of read buffer e input (part more q i) = cc

-- ---- what is printed

pub prints-none : (out : List ℕ) → Prints [] out 0 out
prints-none out = record { count = refl; bytes = refl }

pub counts-none : (out : List ℕ) → IsPrefixLen 0 out
counts-none out = (omega arith, refl)

pub prints-counts : {text out : List ℕ} {n : ℕ} {out' : List ℕ} → Prints text out n out' → IsPrefixLen n out'
prints-counts p = (prints-in p, prints-all p)

module _ (printed : List ℕ → List ℕ) (read : Option Input) (buffer out : List ℕ) (r : ℕ) (out' : List ℕ) where
  pub answers : (text : List ℕ) → HandsOn printed read buffer text → Prints (printed text) out r out' → Answers printed read buffer out r out'
  answers text h p = record { prints = λ input o. prints-as (h.same input o) p; fails = λ e. absurd (h.good e) }

  pub answers-none : read ≡ None → Prints [] out r out' → Answers printed read buffer out r out'
  answers-none e p = record { prints = λ input o. absurd (nothing-of read buffer e input o); fails = λ q. p }

module _ (first : Option Input) (script : List ℕ) (second : Option Input) (list out : List ℕ) (r : ℕ) (out' : List ℕ) where
  pub answers-both : (text : List ℕ) → ((l : List ℕ) → HandsOn (λ s. checker_prints base s l) first script text) → Answers (checker_prints base text) second list out r out'
      → AnswersBoth first script second list out r out'
  answers-both text h p = record { prints = λ s l o q. prints-as ((h l).same s o) (p.prints l q); fails = go }
    where
      go : (first ≡ None) ⊎ (second ≡ None) → Prints [] out r out'
      go (inl e) = absurd ((h []).good e)
      go (inr e) = p.fails e

  pub both-none : first ≡ None → Prints [] out r out' → AnswersBoth first script second list out r out'
  both-none e p = record { prints = λ s l o q. absurd (nothing-of first script e s o); fails = λ q. p }

-- ---- any two results that a promise admits are equal

abbrev SameLeft : ℕ → List ℕ → ℕ → List ℕ → Type 0
SameLeft r out' m out'' = (r ≡ m) × (out' ≡ out'')

module _ (printed : List ℕ → List ℕ) (buffer out : List ℕ) (r : ℕ) (out' : List ℕ) (m : ℕ) (out'' : List ℕ) where
  pub answers_one : (read : Option Input) → Answers printed read buffer out r out' → Answers printed read buffer out m out'' → SameLeft r out' m out''
  answers_one (Some (Whole n)) a b = prints-one (a.prints _ (all n refl refl)) (b.prints _ (all n refl refl))
  answers_one (Some Full) a b = prints-one (a.prints _ (part [] refl refl)) (b.prints _ (part [] refl refl))
  answers_one None a b = prints-one (a.fails refl) (b.fails refl)

module _ (script list out : List ℕ) (r : ℕ) (out' : List ℕ) (m : ℕ) (out'' : List ℕ) where
  -- beside any script of which this was read, the promise is one on the list
  beside : (first second : Option Input) (s : List ℕ) → ReadOf first script s → {n : ℕ} {o : List ℕ} → AnswersBoth first script second list out n o → Answers (checker_prints base s) second list out n o
  beside first second s h a = record { prints = λ l q. a.prints s l h q; fails = λ e. a.fails (inr e) }

  pub both_one : (first second : Option Input) → AnswersBoth first script second list out r out' → AnswersBoth first script second list out m out'' → SameLeft r out' m out''
  both_one (Some (Whole n)) second a b = let h = all n refl refl in answers_one _ list out r out' m out'' second (beside _ second _ h a) (beside _ second _ h b)
  both_one (Some Full) second a b = let h = part [] refl refl in answers_one _ list out r out' m out'' second (beside _ second _ h a) (beside _ second _ h b)
  both_one None second a b = prints-one (a.fails (inl refl)) (b.fails (inl refl))
