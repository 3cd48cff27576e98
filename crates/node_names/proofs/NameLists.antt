-- Lists of names for variables: one name more, those from a place on, and some of them.
use Rattle.std.proofs.Common.{◌≡◌, ◌<◌, ◌+◌, ℕ, List, [], ◌∷◌, ◌++◌, None, Some, drop, take, ap, sym, ◌∙◌, subst}
use Rattle.std.proofs.Common.{arith, append_assoc}
use Rattle.std.specs.Prelude.{All, Contains, Err, IfOk, IfSome, Ok, Option, Result, slice_get}
use Rattle.std.proofs.lemmas.List.{take_more}
use Rattle.std.proofs.lemmas.List.Elements.{All-append, All-contains, All-drop, All-nil, All-push, All-take}
use Rattle.std.proofs.lemmas.Option.{get_or_from_slice_get, slice_get_within}
use Rattle.term_core.specs.declared.memory.OutOfMemory.{OutOfMemory}
use Rattle.spec_core.specs.declared.records.Goal.{Goal}
use Rattle.spec_core.specs.declared.records.Spec.{Spec}
use Rattle.spec_core.specs.Sig.{Sig, names_of}
use Rattle.node_names.specs.Names.{AreDifferent, AreNames, AreNoSymbols, IsDerived, IsFree, IsMark, IsMarked, stems_of}
use Rattle.node_names.proofs.Different.{at_contains, contains_at, different_dropped, different_pushed, taken_at}

abbrev IsNoSymbol : Sig → List ℕ → Type 0
IsNoSymbol sig name = Contains (names_of sig) name → ⊥

module _ (spec : Spec) (goal : Goal) where
  pub names_none : AreNames spec goal []
  names_none = record {
    different = λ j k name at_j at_k. absurd (let q : None ≡ Some name = at_j in cc);
    no_symbols = All-nil (IsNoSymbol spec.sig);
    derived = All-nil (IsDerived spec goal);
  }

  pub names_pushed : (names : List (List ℕ)) (name : List ℕ) → AreNames spec goal names
      → IsFree spec.sig names name → IsDerived spec goal name
      → AreNames spec goal (names ++ name ∷ [])
  names_pushed names name are free derived = record {
    different = different_pushed names name are.different free.1;
    no_symbols = All-push (IsNoSymbol spec.sig) names name are.no_symbols free.0;
    derived = All-push (IsDerived spec goal) names name are.derived derived;
  }

  pub names_dropped : (names : List (List ℕ)) (n : ℕ) → AreNames spec goal names
      → AreNames spec goal (drop n names)
  names_dropped names n are = record {
    different = different_dropped names n are.different;
    no_symbols = All-drop (IsNoSymbol spec.sig) n names are.no_symbols;
    derived = All-drop (IsDerived spec goal) n names are.derived;
  }

  pub names_taken : (names : List (List ℕ)) (n : ℕ) → AreNames spec goal names
      → AreNames spec goal (take n names)
  names_taken names n are = record {
    different = λ j k name at_j at_k.
        are.different j k name (taken_at names n j name at_j).1 (taken_at names n k name at_k).1;
    no_symbols = All-take (IsNoSymbol spec.sig) n names are.no_symbols;
    derived = All-take (IsDerived spec goal) n names are.derived;
  }

  pub names_among : (names met : List (List ℕ)) → AreNames spec goal names → AreDifferent met
      → All (Contains names) met → AreNames spec goal met
  names_among names met are different among = record {
    different = different;
    no_symbols = λ k d lt. All-contains (IsNoSymbol spec.sig) names _ are.no_symbols (among k d lt);
    derived = λ k d lt. All-contains (IsDerived spec goal) names _ are.derived (among k d lt);
  }

  -- what is made from a derived name is derived
  pub derived_marked : (name more : List ℕ) → IsDerived spec goal name → IsMarked name more
      → IsDerived spec goal more
  derived_marked name more (stem, there, (marks, is, all)) (others, more_is, all_others) = (
    stem,
    there,
    (
      marks ++ others,
      more_is ∙ ap (λ (x : List ℕ). x ++ others) is ∙ append_assoc stem marks others,
      All-append IsMark marks others all all_others,
    ),
  )

  -- and so is what is made from a stem
  pub derived_fresh : (r : Result (List ℕ) OutOfMemory) (stem : List ℕ)
      → Contains (stems_of spec goal) stem → IfOk r (IsMarked stem) → IfOk r (IsDerived spec goal)
  derived_fresh (Ok name) stem there marked = (stem, there, marked)
  derived_fresh (Err e) stem there marked = tt

pub marked_found : (o : Option (List ℕ)) (stem name bytes : List ℕ) → o ≡ Some name
    → bytes ≡ stem → IfSome o (IsMarked bytes) → IsMarked stem name
marked_found None stem name bytes is same marked = absurd (let q : None ≡ Some name = is in cc)
marked_found (Some n) stem name bytes is same marked =
    let q : n ≡ name = cc in
    subst (λ (x : List ℕ). IsMarked stem x) q (subst (λ (b : List ℕ). IsMarked b n) same marked)

module _ (sig : Sig) (names : List (List ℕ)) (i : ℕ) (name : List ℕ) where
  -- each name of a list that can be names is free among those before it
  pub free_before : slice_get names i ≡ Some name → AreDifferent names → AreNoSymbols sig names
      → IsFree sig (take i names) name
  free_before at different no_symbols = (
    λ there. All-contains (IsNoSymbol sig) names name no_symbols (at_contains names i name at) there,
    λ there.
        let place = contains_at (take i names) name there in
        let before = taken_at names i place.0 name place.1 in
        let same : place.0 ≡ i = different place.0 i name before.1 at in
        let less : place.0 < i = before.0 in
        omega arith,
  )

  taken_more : slice_get names i ≡ Some name → take (i + 1) names ≡ take i names ++ name ∷ []
  taken_more at =
      take_more names i name (slice_get_within names i name at)
      ∙ ap (λ (x : List ℕ). take i names ++ x ∷ []) (get_or_from_slice_get names i name name at)

  pub different_more : slice_get names i ≡ Some name → AreDifferent (take i names)
      → IsFree sig (take i names) name → AreDifferent (take (i + 1) names)
  different_more at different free =
      subst (λ (ns : List (List ℕ)). AreDifferent ns) (sym (taken_more at))
      (different_pushed (take i names) name different free.1)

  pub no_symbols_more : slice_get names i ≡ Some name → AreNoSymbols sig (take i names)
      → IsFree sig (take i names) name → AreNoSymbols sig (take (i + 1) names)
  no_symbols_more at no_symbols free =
      subst (λ (ns : List (List ℕ)). AreNoSymbols sig ns) (sym (taken_more at))
      (All-push (IsNoSymbol sig) (take i names) name no_symbols free.0)

pub some_of : {X : Type 0} (o : Option X) (x : X) (P : X → Type 0) → o ≡ Some x → IfSome o P → P x
some_of None x P is h = absurd (let q : None ≡ Some x = is in cc)
some_of (Some y) x P is h = let q : y ≡ x = cc in subst P q h
