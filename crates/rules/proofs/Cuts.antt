-- "Recordings are read in parts of any length, and where they are cut changes nothing." Assumes nothing.
use mathlib.Core.Path.{◌≡◌, refl, sym, ap, ◌∙◌}
use mathlib.Core.Bool.{true, false}
use mathlib.Core.List.{List, [], ◌∷◌, ◌++◌}
use Prim.Native.Nat.{ℕ}
use Rattle.rules.specs.Notation.{provided◌then◌else◌}
use Rattle.rules.specs.Recordings.{Reader, reader, read_byte, kept_by, fed, kept, limit, is_reader, is_state, reader_of, state_of}
use Rattle.rules.specs.Entries.{refusal_answer, PartRead, read_entry}
use Rattle.rules.specs.Cuts.{read_on, WhereCut}
use Rattle.rules.proofs.Tells.{decided}
use Rattle.rules.proofs.Readers.{Sound, sound-byte, bad-byte, bad-keeps, reads-back}

pub fed-append : (p q : List ℕ) (r : Reader) → fed r (p ++ q) ≡ fed (fed r p) q
unfolding fed
fed-append [] q r = refl
fed-append (c ∷ p) q r = fed-append p q (read_byte r c)

pub kept_append : (p q : List ℕ) (r : Reader) (m : List ℕ) → kept r (p ++ q) m ≡ kept (fed r p) q (kept r p m)
unfolding fed kept
kept_append [] q r m = refl
kept_append (c ∷ p) q r m = kept_append p q (read_byte r c) (kept_by r c m)

pub sound-fed : (s : List ℕ) (r : Reader) → Sound r → Sound (fed r s)
unfolding fed
sound-fed [] r h = h
sound-fed (c ∷ s) r h = sound-fed s (read_byte r c) (sound-byte r c h)

-- a malformed line stays as it is, and so does lent memory
pub bad-fed : (s : List ℕ) (i : ℕ) → fed (reader i 7 0) s ≡ reader i 7 0
unfolding fed
bad-fed [] i = refl
bad-fed (c ∷ s) i = ap (λ (r : Reader). fed r s) (bad-byte i c) ∙ bad-fed s i

pub bad-kept : (s : List ℕ) (i : ℕ) (m : List ℕ) → kept (reader i 7 0) s m ≡ m
unfolding kept
bad-kept [] i m = refl
bad-kept (c ∷ s) i m =
    ap (λ (r : Reader). kept r s (kept_by (reader i 7 0) c m)) (bad-byte i c) ∙ ap (kept (reader i 7 0) s) (bad-keeps i c m) ∙ bad-kept s i m

-- ---- the entry

abbrev pub part_read : ℕ → List ℕ → PartRead
part_read a m = record { answer = a; samples = m }

module _ (n : ℕ) (m p : List ℕ) where
  pub entry-sound : is_state n ≡ true → read_entry n m p ≡ part_read (state_of (fed (reader_of n) p)) (kept (reader_of n) p m)
  unfolding read_entry provided◌then◌else◌
  entry-sound h = rw (h, read_entry, provided◌then◌else◌)

  pub entry-refused : is_state n ≡ false → read_entry n m p ≡ part_read (refusal_answer 29 0) m
  unfolding read_entry provided◌then◌else◌
  entry-refused h = rw (h, read_entry, provided◌then◌else◌)

refused-29 : is_state (refusal_answer 29 0) ≡ false
unfolding is_reader limit
refused-29 = refl

-- a refusal is no state, so an answer is one exactly if the number handed in was
pub state-answered : (n : ℕ) (m p : List ℕ) → is_state (read_entry n m p).answer ≡ is_state n
state-answered n m p =
    decided (is_state n)
    (λ h.
    ap (λ (x : PartRead). is_state x.answer) (entry-sound n m p h)
    ∙ ap is_reader (reads-back (fed (reader_of n) p) (sound-fed p (reader_of n) h))
    ∙ sound-fed p (reader_of n) h
    ∙ sym h)
    (λ h. ap (λ (x : PartRead). is_state x.answer) (entry-refused n m p h) ∙ refused-29 ∙ sym h)

cut-sound : (n : ℕ) (m p q : List ℕ) → is_state n ≡ true → read_entry n m (p ++ q) ≡ read_on (read_entry n m p) q
cut-sound n m p q h =
    let r = reader_of n in
    let f = fed r p in
    let o : reader_of (state_of f) ≡ f = reads-back f (sound-fed p r h) in
    let g : is_state (state_of f) ≡ true = ap is_reader o ∙ sound-fed p r h in
    let a : state_of (fed r (p ++ q)) ≡ state_of (fed (reader_of (state_of f)) q) = ap state_of (fed-append p q r ∙ ap (λ (t : Reader). fed t q) (sym o)) in
    let b : kept r (p ++ q) m ≡ kept (reader_of (state_of f)) q (kept r p m) = kept_append p q r m ∙ ap (λ (t : Reader). kept t q (kept r p m)) (sym o) in
    let ab : part_read (state_of (fed r (p ++ q))) (kept r (p ++ q) m) ≡ part_read (state_of (fed (reader_of (state_of f)) q)) (kept (reader_of (state_of f)) q (kept r p m))
    = λ u. part_read (a u) (b u) in
    entry-sound n m (p ++ q) h ∙ ab ∙ sym (entry-sound (state_of f) (kept r p m) q g) ∙ ap (λ (x : PartRead). read_on x q) (sym (entry-sound n m p h))

pub where-cut : WhereCut
where-cut n m p q =
    decided (is_state n) (cut-sound n m p q)
    (λ h.
    entry-refused n m (p ++ q) h
    ∙ sym (entry-refused (refusal_answer 29 0) m q refused-29)
    ∙ ap (λ (x : PartRead). read_on x q) (sym (entry-refused n m p h)))
