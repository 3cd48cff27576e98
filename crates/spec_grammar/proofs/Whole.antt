-- The machine's fault is the fault of the tokens, and the other way round.
use Rattle.std.proofs.Common.{◌≡◌, ℕ, List, [], ◌∷◌, ◌++◌, Option, Some, None, Bool, true, false, cond, length, refl}
use Rattle.std.proofs.Common.{ap, sym, subst, ◌∙◌, append_assoc}
use Rattle.std.proofs.lemmas.List.{append-nil}
use Rattle.spec_grammar.specs.declared.limits.LimitKind.{LimitKind}
use Rattle.spec_grammar.specs.Items.{Item}
use Rattle.spec_grammar.specs.Grammar.{Marked}
use Rattle.spec_grammar.specs.Derives.{clean, bare, Derives, Begins, IsFault}
use Rattle.spec_grammar.specs.Symbols.{Symbol, Reaction, take, pass, fail, feed, Fault, after, ends, run}
use Rattle.spec_grammar.proofs.Stacks.{Agrees, accepts, limits, no_more, no_end, some_is, none_some}
use Rattle.spec_grammar.proofs.Means.{MeansTo, all_least, feed_means, ends_mean}

pub bare-append : (u v : List Marked) → bare (u ++ v) ≡ bare u ++ bare v
bare-append [] v = refl
bare-append (x ∷ u) v = ap (λ (xs : List Item). x.0 ∷ xs) (bare-append u v)

pub bare-clean : (xs : List Item) → bare (clean xs) ≡ xs
bare-clean [] = refl
bare-clean (x ∷ xs) = ap (λ (ys : List Item). x ∷ ys) (bare-clean xs)

-- the stack reads these tokens, none of which passes a limit, and leaves a stack
abbrev pub Reached : List Symbol → List Item → List Symbol → Type 0
Reached st [] end = st ≡ end
Reached st (x ∷ xs) end = (next : List Symbol) × (feed st x ≡ take None next) × Reached next xs end

reached_run : (done rest : List Item) (st end : List Symbol) → Reached st done end →
    run st (done ++ rest) ≡ run end rest
unfolding run
reached_run [] rest st end h = ap (λ (s : List Symbol). run s rest) h
reached_run (x ∷ done) rest st end h = rw h.1 (reached_run done rest h.0 end h.2)

reached_agrees : (done : List Item) (w : List Marked) (st : List Symbol) → Agrees st (clean done ++ w) →
    (end : List Symbol) × Reached st done end
reached_agrees [] w st h = (st, refl)
reached_agrees (x ∷ done) w st h = let r = reached_agrees done w h.0 h.2 in (r.0, (h.0, h.1, r.1))

reached_means : (done : List Item) (w : List Marked) (st end : List Symbol) → Reached st done end →
    MeansTo end w [] → MeansTo st (clean done ++ w) []
reached_means [] w st end h m = subst (λ (s : List Symbol). MeansTo s w []) (sym h) m
reached_means (x ∷ done) w st end h m = feed_means st x None h.0 (clean done ++ w) [] h.1
    (reached_means done w h.0 end h.2 m)

-- what stops the machine
abbrev pub AtFault : List Symbol → List Item → Option LimitKind → Type 0
AtFault end [] None = Unit {0}
AtFault end [] (Some why) = ⊥
AtFault end (x ∷ rest) None = Unit {0}
AtFault end (x ∷ rest) (Some why) = (next : List Symbol) × (feed end x ≡ take (Some why) next)

abbrev pub Stopped : List Symbol → List Item → Fault → Type 0
Stopped st items f = (done : List Item) × (left : List Item) × (end : List Symbol) × (items ≡ done ++ left)
    × (length left ≡ f.0) × Reached st done end × AtFault end left f.1

stopped_end : (st : List Symbol) (b : Bool) (f : Fault) →
    cond {A = Option Fault} b None (Some (0, None)) ≡ Some f → Stopped st [] f
stopped_end st true f h = absurd (none_some h)
stopped_end st false f h = let made : Stopped st [] (0, None) = ([], [], st, refl, refl, refl, tt) in
    subst (λ (g : Fault). Stopped st [] g) (some_is h) made

stopped_here : (st : List Symbol) (x : Item) (items : List Item) (f : Fault) (r : Reaction) → feed st x ≡ r →
    after r (length (x ∷ items)) (λ s. run s items) ≡ Some f →
    ((s : List Symbol) → run s items ≡ Some f → Stopped s items f) → Stopped st (x ∷ items) f
stopped_here st x items f (take None next) e h ih = let r = ih next h in
    (x ∷ r.0, r.1, r.2, ap (λ (xs : List Item). x ∷ xs) r.3, r.4, (next, e, r.5), r.6)
stopped_here st x items f (take (Some why) next) e h ih = let made : Stopped st (x ∷ items) (
  length (x ∷ items),
  Some why,
) = ([], x ∷ items, st, refl, refl, refl, (next, e)) in
    subst (λ (g : Fault). Stopped st (x ∷ items) g) (some_is h) made
stopped_here st x items f pass e h ih = let made : Stopped st (x ∷ items) (length (x ∷ items), None) = (
  [],
  x ∷ items,
  st,
  refl,
  refl,
  refl,
  tt,
) in subst (λ (g : Fault). Stopped st (x ∷ items) g) (some_is h) made
stopped_here st x items f fail e h ih = let made : Stopped st (x ∷ items) (length (x ∷ items), None) = (
  [],
  x ∷ items,
  st,
  refl,
  refl,
  refl,
  tt,
) in subst (λ (g : Fault). Stopped st (x ∷ items) g) (some_is h) made

stopped_is : (items : List Item) (st : List Symbol) (f : Fault) → run st items ≡ Some f → Stopped st items f
unfolding run
stopped_is [] st f h = stopped_end st (ends st) f h
stopped_is (x ∷ items) st f h = stopped_here st x items f (feed st x) refl h (λ s k. stopped_is items s f k)

at_end : (st : List Symbol) (b : Bool) → ends st ≡ b → (ends st ≡ true → ⊥) →
    cond {A = Option Fault} b None (Some (0, None)) ≡ Some (0, None)
at_end st true e h = absurd (h e)
at_end st false e h = refl

at_token : (st : List Symbol) (x : Item) (rest : List Item) (r : Reaction) → feed st x ≡ r →
    ((m : Option LimitKind) (next : List Symbol) → feed st x ≡ take m next → ⊥) →
    after r (length (x ∷ rest)) (λ s. run s rest) ≡ Some (length (x ∷ rest), None)
at_token st x rest (take m next) e h = absurd (h m next e)
at_token st x rest pass e h = refl
at_token st x rest fail e h = refl

-- for a stack that agrees with the texts of a kind of thing, and means no others
module _ {R : Type 0} (start : List Symbol) (IsText : R → List Marked →
    Type 0) (agrees : (r : R) (w : List Marked) → IsText r w → Agrees start w) (means : (w : List Marked) →
    MeansTo start w [] → (r : R) × IsText r w) where
  -- what was read can be gone on with
  begins : (done : List Item) (end : List Symbol) → Reached start done end → Begins IsText (clean done)
  begins done end h =
      let w = all_least end in
      let s = means (clean done ++ w.0) (reached_means done w.0 start end h w.1) in
      (s.0, w.0, s.1)

  takes_on : (done : List Item) (x : Item) (m : Option LimitKind) (end next : List Symbol) →
      Reached start done end → feed end x ≡ take m next → Begins IsText (clean done ++ (x, m) ∷ [])
  takes_on done x m end next h e =
      let w = all_least next in
      let s = means (clean done ++ ((x, m) ∷ w.0))
      (reached_means done ((x, m) ∷ w.0) start end h (feed_means end x m next w.0 [] e w.1)) in
      (s.0, w.0, subst (IsText s.0) (sym (append_assoc (clean done) ((x, m) ∷ []) w.0)) s.1)

  -- what stops the machine after these tokens is their fault
  pub is_fault : (done left : List Item) (why : Option LimitKind) (end : List Symbol) → Reached start done end →
      AtFault end left why → run start (done ++ left) ≡ Some (length left, why) → IsFault IsText done left why
  is_fault done [] None end h a r = (
    begins done end h,
    λ q w t e. no_end done start w (agrees q w t) e
        (subst (λ (xs : List Item). run start xs ≡ Some (0, None)) (append-nil done) r),
  )
  is_fault done [] (Some why) end h a r = a
  is_fault done (x ∷ rest) None end h a r = (
    begins done end h,
    λ c. no_more done x rest c.2 start c.1 (agrees c.0 c.1 c.3)
        (c.4 ∙ append_assoc done (x ∷ []) c.2) r,
  )
  is_fault done (x ∷ rest) (Some why) end h a r = takes_on done x (Some why) end a.0 h a.1

  -- the machine stops where the tokens have their first fault
  pub refused : (items : List Item) (f : Fault) → run start items ≡ Some f →
      (done : List Item) × (left : List Item) × (items ≡ done ++ left) × (length left ≡ f.0)
      × IsFault IsText done left f.1
  refused items f r =
      let s = stopped_is items start f r in
      let g : Some f ≡ Some (length s.1, f.1) = ap (λ (n : ℕ). Some (n, f.1)) (sym s.4) in
      (s.0, s.1, s.3, s.4, is_fault s.0 s.1 f.1 s.2 s.5 s.6 (ap (run start) (sym s.3) ∙ r ∙ g))

  without_marks : (done : List Item) (x : Item) (m : Option LimitKind) (w : List Marked) →
      bare ((clean done ++ (x, m) ∷ []) ++ w) ≡ (done ++ x ∷ []) ++ bare w
  without_marks done x m w = bare-append (clean done ++ (x, m) ∷ []) w
      ∙ ap (λ (xs : List Item). xs ++ bare w) (bare-append (clean done) ((x, m) ∷ [])
      ∙ ap (λ (xs : List Item). xs ++ x ∷ []) (bare-clean done))

  -- a fault stops the machine
  pub fault_run : (done left : List Item) (why : Option LimitKind) → IsFault IsText done left why →
      run start (done ++ left) ≡ Some (length left, why)
  unfolding run
  fault_run done [] None h =
      let r = reached_agrees done h.0.1 start (agrees h.0.0 (clean done ++ h.0.1) h.0.2) in
      let open_end : ends r.0 ≡ true →
      ⊥ = λ e. let s = means (clean done ++ []) (reached_means done [] start r.0 r.1 (ends_mean r.0 e)) in
      h.1 s.0 (clean done ++ []) s.1 (ap bare (append-nil (clean done)) ∙ bare-clean done) in
      reached_run done [] start r.0 r.1 ∙ at_end r.0 (ends r.0) refl open_end
  fault_run done [] (Some why) h = absurd h
  fault_run done (x ∷ rest) None h =
      let r = reached_agrees done h.0.1 start (agrees h.0.0 (clean done ++ h.0.1) h.0.2) in
      let no_take : (m : Option LimitKind) (next : List Symbol) → feed r.0 x ≡ take m next →
      ⊥ = λ m next e. let s = takes_on done x m r.0 next r.1 e in
      h.1 (s.0, (clean done ++ (x, m) ∷ []) ++ s.1, bare s.1, s.2, without_marks done x m s.1) in
      reached_run done (x ∷ rest) start r.0 r.1 ∙ at_token r.0 x rest (feed r.0 x) refl no_take
  fault_run done (x ∷ rest) (Some why) h =
      limits done x why h.1 rest start
      (subst (Agrees start) (append_assoc (clean done) ((x, Some why) ∷ []) h.1)
      (agrees h.0 ((clean done ++ (x, Some why) ∷ []) ++ h.1) h.2))

  -- what is derived stops nowhere
  pub derived_run : (items : List Item) (r : R) → Derives IsText items r → run start items ≡ None
  derived_run items r d = accepts items start (agrees r (clean items) d)
