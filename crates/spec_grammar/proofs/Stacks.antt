-- What the machine says of tokens that a stack agrees with.
use Rattle.std.proofs.Common.{◌≡◌, ℕ, ◌≤◌, List, [], ◌∷◌, ◌++◌, Option, Some, None, Bool, true, false, cond, length}
use Rattle.std.proofs.Common.{refl, ap, sym, subst, ◌∙◌, arith}
use Rattle.spec_grammar.specs.declared.limits.LimitKind.{LimitKind}
use Rattle.spec_grammar.specs.Items.{Item}
use Rattle.spec_grammar.specs.Grammar.{Marked}
use Rattle.spec_grammar.specs.Derives.{clean, bare}
use Rattle.spec_grammar.specs.Symbols.{Symbol, Reaction, take, pass, fail, react, feed, Fault, after, is_empty, ends}
use Rattle.spec_grammar.specs.Symbols.{run}

-- the stack takes these tokens with these marks, and ends with them
abbrev pub Agrees : List Symbol → List Marked → Type 0
Agrees st [] = ends st ≡ true
Agrees st (x ∷ w) = (next : List Symbol) × (feed st x.0 ≡ take x.1 next) × Agrees next w

-- the symbol stands for nothing before these tokens
abbrev pub Skips : Symbol → List Marked → Type 0
Skips s [] = is_empty s ≡ true
Skips s (x ∷ w) = react s x.0 ≡ pass

pub agrees_take : (s : Symbol) (st ss : List Symbol) (x : Item) (m : Option LimitKind) (w : List Marked) →
    react s x ≡ take m ss → Agrees (ss ++ st) w → Agrees (s ∷ st) ((x, m) ∷ w)
agrees_take s st ss x m w e h = (ss ++ st, rw e refl, h)

pub agrees_pass : (s : Symbol) (st : List Symbol) (w : List Marked) → Skips s w → Agrees st w → Agrees (s ∷ st) w
agrees_pass s st [] e h = rw e h
agrees_pass s st (x ∷ w) e h = (h.0, rw e h.1, h.2)

pub accepts : (items : List Item) (st : List Symbol) → Agrees st (clean items) → run st items ≡ None
unfolding run
accepts [] st h = rw h refl
accepts (x ∷ items) st h = rw h.1 (accepts items h.0 h.2)

pub limits : (done : List Item) (x : Item) (why : LimitKind) (w : List Marked) (rest : List Item)
    (st : List Symbol) → Agrees st (clean done ++ ((x, Some why) ∷ w)) →
    run st (done ++ (x ∷ rest)) ≡ Some (length (x ∷ rest), Some why)
unfolding run
limits [] x why w rest st h = rw h.1 refl
limits (y ∷ done) x why w rest st h = rw h.1 (limits done x why w rest h.0 h.2)

pub some_is : {f g : Fault} → Some f ≡ Some g → f ≡ g
some_is e = cc

pub none_some : {f : Fault} → ◌≡◌ {A = Option Fault} None (Some f) → ⊥
none_some e = cc

pub limit_none : {why : LimitKind} → ◌≡◌ {A = Option LimitKind} (Some why) None → ⊥
limit_none e = cc

pub none_limit : {why : LimitKind} → ◌≡◌ {A = Option LimitKind} None (Some why) → ⊥
none_limit e = cc

pub limit_is : {a b : LimitKind} → ◌≡◌ {A = Option LimitKind} (Some a) (Some b) → a ≡ b
limit_is e = cc

left_is : {f g : Fault} → Some f ≡ Some g → f.0 ≡ g.0
left_is e = ap (λ (g : Fault). g.0) (some_is e)

end_le : (b : Bool) (f : Fault) → cond {A = Option Fault} b None (Some (0, None)) ≡ Some f → f.0 ≤ 0
end_le true f h = absurd (none_some h)
end_le false f h = omega (arith, left_is h)

after_le : (r : Reaction) (n : ℕ) (next : List Symbol → Option Fault) (f : Fault) →
    ((s : List Symbol) → next s ≡ Some f → f.0 ≤ n) → after r n next ≡ Some f → f.0 ≤ n
after_le (take None s) n next f ih h = ih s h
after_le (take (Some why) s) n next f ih h = omega (arith, left_is h)
after_le pass n next f ih h = omega (arith, left_is h)
after_le fail n next f ih h = omega (arith, left_is h)

pub run_le : (items : List Item) (st : List Symbol) (f : Fault) → run st items ≡ Some f → f.0 ≤ length items
unfolding run
run_le [] st f h = end_le (ends st) f h
run_le (x ∷ items) st f h = after_le (feed st x) (length (x ∷ items)) (λ s. run s items) f
    (λ s k. let le = run_le items s f k in omega (arith, le)) h

-- a stack that takes a token has no syntax fault at it
taken : (m : Option LimitKind) (s : List Symbol) (n l : ℕ) (next : List Symbol → Option Fault) →
    (next s ≡ Some (l, None) → ⊥) → after (take m s) n next ≡ Some (l, None) → ⊥
taken None s n l next ih h = ih h
taken (Some why) s n l next ih h = limit_none (ap (λ (g : Fault). g.1) (some_is h))

pub heads : {x y : Item} {xs ys : List Item} → x ∷ xs ≡ y ∷ ys → x ≡ y
heads e = cc

pub tails : {x y : Item} {xs ys : List Item} → x ∷ xs ≡ y ∷ ys → xs ≡ ys
tails e = cc

pub nil_cons : {x : Item} {xs : List Item} → ◌≡◌ {A = List Item} [] (x ∷ xs) → ⊥
nil_cons e = cc

-- no text goes on with a token at which the machine has a syntax fault
pub no_more : (done : List Item) (x : Item) (rest others : List Item) (st : List Symbol) (w : List Marked) →
    Agrees st w → bare w ≡ done ++ (x ∷ others) → run st (done ++ (x ∷ rest)) ≡ Some (length (x ∷ rest), None) → ⊥
unfolding run
no_more [] x rest others st [] h e r = nil_cons e
no_more [] x rest others st (y ∷ w) h e r = taken y.1 h.0 (length (x ∷ rest)) (length (x ∷ rest))
    (λ s. run s rest) (λ k. let le = run_le rest h.0 (length (x ∷ rest), None) k in omega (arith, le))
    (subst (λ (v : Reaction). after v (length (x ∷ rest)) (λ s. run s rest) ≡ Some (length (x ∷ rest), None))
    (ap (feed st) (sym (heads e)) ∙ h.1) r)
no_more (z ∷ done) x rest others st [] h e r = nil_cons e
no_more (z ∷ done) x rest others st (y ∷ w) h e r = taken y.1 h.0 (length (z ∷ (done ++ (x ∷ rest))))
    (length (x ∷ rest)) (λ s. run s (done ++ (x ∷ rest)))
    (λ k. no_more done x rest others h.0 w h.2 (tails e) k)
    (subst (λ (v : Reaction). after v (length (z ∷ (done ++ (x ∷ rest))))
    (λ s. run s (done ++ (x ∷ rest))) ≡ Some (length (x ∷ rest), None)) (ap (feed st) (sym (heads e)) ∙ h.1) r)

-- no text ends if the machine has a syntax fault at the end
pub no_end : (done : List Item) (st : List Symbol) (w : List Marked) → Agrees st w → bare w ≡ done →
    run st done ≡ Some (0, None) → ⊥
unfolding run
no_end [] st [] h e r = none_some (sym (rw h refl) ∙ r)
no_end [] st (y ∷ w) h e r = nil_cons (sym e)
no_end (z ∷ done) st [] h e r = nil_cons e
no_end (z ∷ done) st (y ∷ w) h e r = taken y.1 h.0 (length (z ∷ done)) 0 (λ s. run s done)
    (λ k. no_end done h.0 w h.2 (tails e) k)
    (subst (λ (v : Reaction). after v (length (z ∷ done)) (λ s. run s done) ≡ Some (0, None))
    (ap (feed st) (sym (heads e)) ∙ h.1) r)
