-- Steps of reading, beside the stack of grammar symbols.
use Rattle.std.proofs.Common.{◌≡◌, ◌<◌, ◌≤◌, List, [], ◌∷◌, ◌++◌, Option, Some, None, length, refl, ap, sym, ◌∙◌}
use Rattle.std.proofs.Common.{append_assoc, arith}
use Rattle.spec_grammar.specs.declared.limits.LimitKind.{LimitKind}
use Rattle.spec_grammar.specs.Items.{Item, Word, Sign, Number}
use Rattle.spec_grammar.specs.Grammar.{Marked}
use Rattle.spec_grammar.specs.Derives.{clean}
use Rattle.spec_grammar.specs.Symbols.{Symbol, name, react, take, run}
use Rattle.spec_grammar.proofs.Stacks.{Skips}
use Rattle.spec_syntax.specs.declared.stop.Stop.{Stop}
use Rattle.spec_syntax.specs.declared.stop.Stop.TheVariants.{Fault, OutOfMemory}
use Rattle.spec_syntax.specs.Reading.{LacksWord, IsPassed, Stops}

-- the symbols read the tokens of a text and leave others, whatever is below them
pub record At (ss : List Symbol) (items : List Item) (left : List Symbol) (rest : List Item)
    (shape : List Marked → List Marked) : Type 0 where
  pub same : (st : List Symbol) → run (ss ++ st) items ≡ run (left ++ st) rest
  pub text : clean items ≡ shape (clean rest)
  pub less : length rest ≤ length items

-- what a part refuses is refused
pub stop_then : {ss : List Symbol} {items rest : List Item} {f : List Marked →
    List Marked} (part others : List Symbol) (stop : Stop) → At ss items (part ++ others) rest f →
    Stops part rest stop → Stops ss items stop
stop_then {ss} {items} {rest} part others OutOfMemory a h = tt
stop_then {ss} {items} {rest} part others (Fault left why) a h = λ st. a.same st
    ∙ ap (λ (s : List Symbol). run s rest) (append_assoc part others st) ∙ h (others ++ st)

-- a part goes on where the others left off
pub at_then : {ss left : List Symbol} {items rest next : List Item} {f g : List Marked →
    List Marked} (part others : List Symbol) → At ss items (part ++ others) rest f → At part rest left next g →
    At ss items (left ++ others) next (λ v. f (g v))
at_then {ss} {left} {items} {rest} {next} {f} {g} part others a b = record {
  same = λ st. a.same st ∙ ap (λ (s : List Symbol). run s rest) (append_assoc part others st)
      ∙ b.same (others ++ st) ∙ ap (λ (s : List Symbol). run s next) (sym (append_assoc left others st));
  text = a.text ∙ ap f b.text;
  less = omega (arith, a.less, b.less);
}

-- a symbol takes its token
pub at_take : (s : Symbol) (x : Item) (items rest : List Item) (m : Option LimitKind) (ss : List Symbol) →
    items ≡ x ∷ rest → react s x ≡ take m ss → m ≡ None → At (s ∷ []) items ss rest (λ v. (x, m) ∷ v)
unfolding run
at_take s x items rest m ss e r n = record {
  same = λ st. rw (e, r, n) refl;
  text = ap clean e ∙ ap (λ (k : Option LimitKind). (x, k) ∷ clean rest) (sym n);
  less = omega (arith, ap length e);
}

-- a symbol stands for nothing here
pub at_skip : (s : Symbol) (items : List Item) → Skips s (clean items) → At (s ∷ []) items [] items (λ v. v)
unfolding run
at_skip s [] h = record { same = λ st. rw h refl; text = refl; less = omega arith }
at_skip s (x ∷ items) h = record { same = λ st. rw h refl; text = refl; less = omega arith }

-- a name has to come next
pub no_name : (m : Option LimitKind) (items : List Item) (st : List Symbol) → LacksWord items →
    run (name m ∷ st) items ≡ Some (length items, None)
unfolding run
no_name m [] st h = refl
no_name m (Word b a ∷ items) st h = absurd h
no_name m (Sign j ∷ items) st h = refl
no_name m (Number n ∷ items) st h = refl

-- a token that passes a limit
pub limit_stops : (s : Symbol) (x : Item) (items rest : List Item) (m : Option LimitKind) (ss : List Symbol)
    (stop : Stop) → items ≡ x ∷ rest → react s x ≡ take m ss → IsPassed m (length items) stop →
    Stops (s ∷ []) items stop
unfolding run
limit_stops s x items rest None ss stop e r h = absurd h
limit_stops s x items rest (Some why) ss stop e r h = rw h (λ st. rw (e, r) refl)

-- a symbol that goes on with another one after an item more of its list
pub at_next : {ss : List Symbol} {items rest after : List Item} {f : List Marked →
    List Marked} (s next : Symbol) (others : List Symbol) (item whole : List Marked → List Marked) →
    At ss items (s ∷ others) rest f → clean rest ≡ item (clean after) →
    ((st : List Symbol) → run (s ∷ st) rest ≡ run (next ∷ st) after) → length after < length rest →
    ((v : List Marked) → whole v ≡ f (item v)) → At ss items (next ∷ others) after whole
at_next {ss} {items} {rest} {after} {f} s next others item whole a text same less grows = record {
  same = λ st. a.same st ∙ same (others ++ st);
  text = a.text ∙ ap f text ∙ sym (grows (clean after));
  less = omega (arith, a.less, less);
}

-- nothing is read yet
pub at_start : (s : Symbol) (items : List Item) → At (s ∷ []) items (s ∷ []) items (λ v. v)
at_start s items = record { same = λ st. refl; text = refl; less = omega arith }

-- what a part refuses is refused, if the first symbols go to it and others
pub stop_at : (ss part others : List Symbol) (items rest : List Item) (stop : Stop) →
    ((st : List Symbol) → run (ss ++ st) items ≡ run (part ++ (others ++ st)) rest) → Stops part rest stop →
    Stops ss items stop
stop_at ss part others items rest OutOfMemory g h = tt
stop_at ss part others items rest (Fault left why) g h = λ st. g st ∙ h (others ++ st)
