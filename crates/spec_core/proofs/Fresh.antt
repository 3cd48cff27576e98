-- Names that are none of those before them.
use Rattle.std.proofs.Common.{◌≡◌, ℕ, zero, suc, ◌+◌, ◌<◌, List, [], ◌∷◌, ◌++◌, Bool, true, false, Some, None, IsTrue}
use Rattle.std.proofs.Common.{refl, ap, sym, ◌∙◌, subst, arith, get_or, length, take, add-one, append_assoc}
use Rattle.std.specs.Prelude.{Result, Ok, Err, IfOk, Option, MatchOption}
use Rattle.term_core.specs.declared.memory.OutOfMemory.{OutOfMemory}
use Rattle.std.proofs.lemmas.List.{append-nil}
use Rattle.std.specs.Str.{bytes_eq}
use Rattle.std.proofs.lemmas.Slice.Eq.{bytes_eq-Decides}
use Rattle.spec_core.specs.declared.records.SymInfo.{SymInfo}
use Rattle.std.specs.Global.{Vec}
use Rattle.spec_core.specs.Sig.{Sig}
use Rattle.spec_core.specs.Pairs.{pairs_of}
use Rattle.spec_core.specs.Declarations.{AreFresh, IsNewName, bool_symbols, all_symbols}

pub same_bytes : (m n x : List ℕ) (r : Bool) → r ≡ bytes_eq m x → x ≡ n → r ≡ true → m ≡ n
same_bytes m n x r e p t = (bytes_eq-Decides m x).0 (sym e ∙ t) ∙ p

pub other_bytes : (m n x : List ℕ) (r : Bool) → r ≡ bytes_eq m x → x ≡ n → r ≡ false → m ≡ n → ⊥
other_bytes m n x r e p f q =
    let t : bytes_eq m x ≡ true = (bytes_eq-Decides m x).1 (q ∙ sym p) in
    let z : true ≡ false = sym t ∙ sym e ∙ f in
    cc

pub named : (name : List ℕ) (names : List (List ℕ)) (i : ℕ) (x : List ℕ) → i < length names →
    x ≡ get_or names i x → name ≡ x → IsNewName name names → ⊥
named name [] i x h e q n = omega arith
named name (y ∷ ys) zero x h e q n = n.0 (q ∙ e)
named name (y ∷ ys) (suc i) x h e q n = named name ys i x (omega arith) e q n.1

pub one_more : (name : List ℕ) (names : List (List ℕ)) (i : ℕ) (x : List ℕ) → i < length names →
    x ≡ get_or names i x → (name ≡ x → ⊥) → IsNewName name (take i names) → IsNewName name (take (i + 1) names)
one_more name [] i x h e q n = absurd (omega arith)
one_more name (y ∷ ys) zero x h e q n = (λ p. q (p ∙ sym e), tt)
one_more name (y ∷ ys) (suc i) x h e q n =
    let r : IsNewName name (take (i + 1) ys) = one_more name ys i x (omega arith) e q n.1 in
    let s : IsNewName name (take (suc i) ys) = rw add-one at r in
    rw add-one (n.0, s)

pub fresh_parts : (seen xs ys : List (List ℕ × SymInfo)) → AreFresh seen (xs ++ ys) →
    AreFresh seen xs × AreFresh (seen ++ xs) ys
fresh_parts seen [] ys h = (tt, subst (λ s. AreFresh s ys) (sym (append-nil seen)) h)
fresh_parts seen (x ∷ xs) ys h =
    let r = fresh_parts (seen ++ x ∷ []) xs ys h.1 in
    ((h.0, r.0), subst (λ s. AreFresh s ys) (append_assoc seen (x ∷ []) xs) r.1)

pub fresh_whole : (seen xs ys : List (List ℕ × SymInfo)) → AreFresh seen xs → AreFresh (seen ++ xs) ys →
    AreFresh seen (xs ++ ys)
fresh_whole seen [] ys a b = subst (λ s. AreFresh s ys) (append-nil seen) b
fresh_whole seen (x ∷ xs) ys a b = (
  a.0,
  fresh_whole (seen ++ x ∷ []) xs ys a.1 (subst (λ s. AreFresh s ys) (sym (append_assoc seen (x ∷ []) xs)) b),
)

module _ (t0 t1 t2 t3 cs fs : List (List ℕ × SymInfo)) (e0 : t0 ≡ []) (e1 : t1 ≡ t0 ++ bool_symbols) where
  start : t1 ≡ bool_symbols
  start = e1 ∙ ap (λ t. t ++ bool_symbols) e0

  pub fill_stop : (AreFresh t1 cs → ⊥) → AreFresh [] (all_symbols cs fs) → ⊥
  fill_stop n h =
      let a = fresh_parts [] bool_symbols (cs ++ fs) h in
      let b = fresh_parts bool_symbols cs fs a.1 in
      n (subst (λ t. AreFresh t cs) (sym start) b.0)

  pub fill_done : AreFresh t0 bool_symbols → t2 ≡ t1 ++ cs → AreFresh t1 cs → (r : Result Bool OutOfMemory) →
      IfOk r (λ fresh. IsTrue fresh → (t3 ≡ t2 ++ fs) × AreFresh t2 fs) →
      IfOk r (λ fresh. IsTrue fresh → (t3 ≡ all_symbols cs fs) × AreFresh [] (all_symbols cs fs))
  fill_done f0 e2 f1 (Err e) h = tt
  fill_done f0 e2 f1 (Ok x) h = λ t.
      let g = h t in
      let b : AreFresh bool_symbols cs = subst (λ s. AreFresh s cs) start f1 in
      let s : t2 ≡ bool_symbols ++ cs = e2 ∙ ap (λ s. s ++ cs) start in
      let d : AreFresh (bool_symbols ++ cs) fs = subst (λ s. AreFresh s fs) s g.1 in (
        g.0 ∙ ap (λ s. s ++ fs) s,
        fresh_whole [] bool_symbols (cs ++ fs) (subst (λ s. AreFresh s bool_symbols) e0 f0)
            (fresh_whole bool_symbols cs fs b d),
      )

  pub fill_not : t2 ≡ t1 ++ cs → (r : Result Bool OutOfMemory) →
      IfOk r (λ fresh. (IsTrue fresh → ⊥) → AreFresh t2 fs → ⊥) →
      IfOk r (λ fresh. (IsTrue fresh → ⊥) → AreFresh [] (all_symbols cs fs) → ⊥)
  fill_not e2 (Err e) h = tt
  fill_not e2 (Ok x) h = λ n g.
      let a = fresh_parts [] bool_symbols (cs ++ fs) g in
      let b = fresh_parts bool_symbols cs fs a.1 in
      let s : t2 ≡ bool_symbols ++ cs = e2 ∙ ap (λ s. s ++ cs) start in
      h n (subst (λ s. AreFresh s fs) (sym s) b.1)

pub is_not : (r : Bool) → r ≡ false → IsTrue r → ⊥
is_not r f t = let z : true ≡ false = sym t ∙ f in cc

pub some_of : {T : Type 0} (r : Option T) (x : T) (A : Type 0) (B : T → Type 0) → r ≡ Some x → MatchOption r A B → B x
some_of None x A B e h = absurd (let q : None ≡ Some x = e in cc)
some_of (Some y) x A B e h = let k : y ≡ x = cc in subst B k h

pub none_of : {T : Type 0} (r : Option T) (A : Type 0) (B : T → Type 0) → r ≡ None → MatchOption r A B → A
none_of None A B e h = h
none_of (Some y) A B e h = absurd (let q : Some y ≡ None = e in cc)

pub pairs_long : (es : List (Vec ℕ × SymInfo)) → length (pairs_of es) ≡ length es
pairs_long [] = refl
pairs_long (e ∷ es) = ap suc (pairs_long es)

pub made_is : (names sorts : List (List ℕ)) (table symbols : List (List ℕ × SymInfo)) (m n : ℕ) →
    names ≡ sorts → table ≡ symbols → m ≡ n →
    ◌≡◌ {A = Sig} (record { sorts = names; table = table; constructors = m })
    (record { sorts = sorts; table = symbols; constructors = n })
made_is names sorts table symbols m n a b c = λ i. record { sorts = a i; table = b i; constructors = c i }
