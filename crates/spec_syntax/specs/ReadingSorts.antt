-- What a function returned that reads sorts, beside the stack of grammar symbols.
use Rattle.std.specs.Prelude.{◌≡◌, ℕ, ◌+◌, ◌<◌, ◌≤◌, List, [], ◌∷◌, ◌++◌, Option, Some, None, Result, Ok, Err, length}
use Rattle.spec_grammar.specs.declared.keys.Key.TheVariants.{Sort, Equals, Bar}
use Rattle.spec_grammar.specs.declared.raw.RawNames.{RawNames}
use Rattle.spec_grammar.specs.declared.raw.RawSort.{RawSort}
use Rattle.spec_grammar.specs.Items.{Item, Sign}
use Rattle.spec_grammar.specs.Grammar.{Marked, sign, name_text, con_text, constructors_text}
use Rattle.spec_grammar.specs.Derives.{clean}
use Rattle.spec_grammar.specs.Limits.{most_constructors, sort_mark, constructor_mark}
use Rattle.spec_grammar.specs.Symbols.{Symbol, key, name, names, sorts, run}
use Rattle.spec_syntax.specs.declared.stop.Stop.{Stop}
use Rattle.spec_syntax.specs.Reading.{Lacks, Stops}

-- constructors that begin a sort's list, before what comes after them
abbrev pub begun_text : ℕ → ℕ → List RawNames → List Marked → List Marked
begun_text version t [] v = v
begun_text version t (c ∷ cs) v =
    con_text (constructor_mark version 0 t) c (constructors_text version 1 (t + 1) cs v)

-- the symbols of a first constructor, if it is one of the n-th sort
abbrev pub first_constructor : ℕ → ℕ → ℕ → List Symbol
first_constructor version n t =
    name (constructor_mark version 0 t) ∷ names ∷ sorts version n 1 (t + 1) ∷ []

-- one more constructor after a bar
abbrev pub ReadsConstructor : {X : Type 0} → ℕ → ℕ → ℕ → (X → RawNames) → (X → List Item)
    → List Item → Result (Option X) Stop → Type 0
ReadsConstructor version k t made rest items (Ok (Some x)) =
    (clean items ≡ sign Bar ∷ con_text (constructor_mark version k t) (made x) (clean (rest x)))
    × ((n : ℕ) (st : List Symbol) → 0 < k
    → run (sorts version n k t ∷ st) items ≡ run (sorts version n (k + 1) (t + 1) ∷ st) (rest x))
    × (length (rest x) < length items) × (t < most_constructors version)
ReadsConstructor version k t made rest items (Ok None) = Lacks Bar items
ReadsConstructor version k t made rest items (Err stop) =
    (n : ℕ) → 0 < k → Stops (sorts version n k t ∷ []) items stop

-- all constructors of a sort; no bar follows
abbrev pub ReadsConstructors : {X : Type 0} → ℕ → ℕ → (X → List RawNames) → (X → List Item)
    → List Item → Result X Stop → Type 0
ReadsConstructors version t made rest items (Ok x) =
    let k = length (made x) in
    (0 < k) × (clean items ≡ begun_text version t (made x) (clean (rest x)))
    × ((n : ℕ) (st : List Symbol)
    → run (first_constructor version n t ++ st) items ≡ run (sorts version n k (t + k) ∷ st) (rest x))
    × (length (rest x) ≤ length items) × (t + k ≤ most_constructors version) × Lacks Bar (rest x)
ReadsConstructors version t made rest items (Err stop) =
    (n : ℕ) → Stops (first_constructor version n t) items stop

-- a sort after its first word
abbrev pub sort_symbols : ℕ → ℕ → ℕ → List Symbol
sort_symbols version n t = name None ∷ key Equals ∷ first_constructor version n t

abbrev pub sort_text : ℕ → ℕ → RawSort → List Marked → List Marked
sort_text version t s v =
    name_text None s.head (sign Equals ∷ begun_text version t s.constructors v)

abbrev pub ReadsSort : {X : Type 0} → ℕ → ℕ → (X → RawSort) → (X → List Item) → List Item
    → Result X Stop → Type 0
ReadsSort version t made rest items (Ok x) =
    let k = length (made x).constructors in
    (0 < k) × (clean items ≡ sort_text version t (made x) (clean (rest x)))
    × ((n : ℕ) (st : List Symbol)
    → run (sort_symbols version n t ++ st) items ≡ run (sorts version n k (t + k) ∷ st) (rest x))
    × (length (rest x) ≤ length items) × (t + k ≤ most_constructors version) × Lacks Bar (rest x)
ReadsSort version t made rest items (Err stop) = (n : ℕ) → Stops (sort_symbols version n t) items stop

-- one more sort, whatever was read of the last one
abbrev pub ReadsNextSort : {X : Type 0} → ℕ → ℕ → ℕ → (X → RawSort) → (X → List Item)
    → List Item → Result (Option X) Stop → Type 0
ReadsNextSort version n t made rest items (Ok (Some x)) =
    let k = length (made x).constructors in
    (0 < k) × (clean items ≡ (Sign Sort, sort_mark n) ∷ sort_text version t (made x) (clean (rest x)))
    × ((j : ℕ) (st : List Symbol)
    → run (sorts version n j t ∷ st) items ≡ run (sorts version (n + 1) k (t + k) ∷ st) (rest x))
    × (length (rest x) < length items) × (t + k ≤ most_constructors version) × Lacks Bar (rest x)
ReadsNextSort version n t made rest items (Ok None) = Lacks Sort items
ReadsNextSort version n t made rest items (Err stop) = (j : ℕ) → Stops (sorts version n j t ∷ []) items stop
