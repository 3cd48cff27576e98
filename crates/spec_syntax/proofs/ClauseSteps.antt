-- The symbols of clauses before the tokens that decide between them.
use Rattle.std.proofs.Common.{◌≡◌, ◌≢◌, ℕ, ◌+◌, ◌≤◌, List, [], ◌∷◌, ◌++◌, inl, inr, None, Result, Ok, Err, length}
use Rattle.std.proofs.Common.{refl, ap, sym, ◌∙◌, arith}
use Rattle.spec_grammar.specs.declared.keys.Key.TheVariants.{Comma, Bar, Arrow}
use Rattle.spec_grammar.specs.declared.raw.RawEq.{RawEq}
use Rattle.spec_grammar.specs.Items.{Item, Word, Sign, Number}
use Rattle.spec_grammar.specs.Grammar.{Marked, sign, sides_text, commas_text, premises_text, bars_text}
use Rattle.spec_grammar.specs.Grammar.{conclusions_text}
use Rattle.spec_grammar.specs.Derives.{clean}
use Rattle.spec_grammar.specs.Limits.{premise_mark, conclusion_mark}
use Rattle.spec_grammar.specs.Symbols.{Symbol, key, clause, tail, commas, conclusions, bars, sides_then, run}
use Rattle.spec_syntax.specs.declared.stop.Stop.{Stop}
use Rattle.spec_syntax.specs.declared.stop.Stop.TheVariants.{Fault, OutOfMemory}
use Rattle.spec_syntax.specs.Reading.{Lacks, BeginsWord, LacksWord, BeginsPremises, LacksPremises, Reads, ReadsBars}
use Rattle.spec_syntax.specs.Reading.{BeginsWith, others_of}
use Rattle.spec_syntax.proofs.Grow.{commas_grow, bars_grow}

pub commas_run : (n : ℕ) (items : List Item) (st : List Symbol) → Lacks Comma items →
    run (commas n ∷ st) items ≡ run (key Arrow ∷ conclusions ∷ st) items
unfolding run
commas_run n [] st h = refl
commas_run n (Word b a ∷ items) st h = refl
commas_run n (Number m ∷ items) st h = refl
commas_run n (Sign Comma ∷ items) st h = absurd (h refl)
commas_run n (Sign _ ∷ items) st h = refl

pub clause_run : (items : List Item) (st : List Symbol) → Lacks Arrow items →
    run (clause ∷ st) items ≡ run (sides_then None (tail ∷ st)) items
unfolding run
clause_run [] st h = refl
clause_run (Word b a ∷ items) st h = refl
clause_run (Number m ∷ items) st h = refl
clause_run (Sign Arrow ∷ items) st h = absurd (h refl)
clause_run (Sign _ ∷ items) st h = refl

pub clause_arrow : (items rest : List Item) (st : List Symbol) → items ≡ Sign Arrow ∷ rest →
    run (clause ∷ st) items ≡ run (conclusions ∷ st) rest
unfolding run
clause_arrow items rest st e = rw e refl

pub conclusions_run : (items : List Item) (st : List Symbol) → BeginsWord items →
    run (conclusions ∷ st) items ≡ run (sides_then None (bars 1 ∷ st)) items
unfolding run
conclusions_run [] st h = absurd h
conclusions_run (Word b a ∷ items) st h = refl
conclusions_run (Sign j ∷ items) st h = absurd h
conclusions_run (Number m ∷ items) st h = absurd h

pub no_conclusions : (items : List Item) (st : List Symbol) → LacksWord items →
    run (conclusions ∷ st) items ≡ run st items
unfolding run
no_conclusions [] st h = refl
no_conclusions (Word b a ∷ items) st h = absurd h
no_conclusions (Sign j ∷ items) st h = refl
no_conclusions (Number m ∷ items) st h = refl

pub tail_bars : (items : List Item) (st : List Symbol) → LacksPremises items →
    run (tail ∷ st) items ≡ run (bars 1 ∷ st) items
unfolding run
tail_bars [] st h = refl
tail_bars (Word b a ∷ items) st h = refl
tail_bars (Number m ∷ items) st h = refl
tail_bars (Sign Comma ∷ items) st h = absurd (h.0 refl)
tail_bars (Sign Arrow ∷ items) st h = absurd (h.1 refl)
tail_bars (Sign Bar ∷ items) st h = refl
tail_bars (Sign _ ∷ items) st h = refl

pub tail_commas : (items : List Item) (st : List Symbol) → BeginsPremises items →
    run (tail ∷ st) items ≡ run (commas 1 ∷ st) items
unfolding run
tail_commas [] st h = absurd h
tail_commas (Word b a ∷ items) st h = absurd h
tail_commas (Number m ∷ items) st h = absurd h
tail_commas (Sign j ∷ items) st (inl e) = rw e refl
tail_commas (Sign j ∷ items) st (inr e) = rw e refl

-- one more equation
pub begins_more : (first : RawEq) (made : List RawEq) (x : RawEq) → BeginsWith first made →
    BeginsWith first (made ++ x ∷ [])
begins_more first [] x h = absurd h
begins_more first (e ∷ es) x h = h

pub bars_more : (first : RawEq) (made : List RawEq) (x : RawEq) (v : List Marked) → BeginsWith first made →
    bars_text 1 (others_of (made ++ x ∷ [])) v ≡ bars_text 1 (others_of made)
    (sign Bar ∷ sides_text (conclusion_mark (length made)) x.left x.right v)
bars_more first [] x v h = absurd h
bars_more first (e ∷ es) x v h =
    let n : 1 + length es ≡ length (e ∷ es) = omega arith in
    bars_grow 1 es x v ∙ ap (λ (k : ℕ). bars_text 1 es (sign Bar ∷ sides_text (conclusion_mark k) x.left x.right v)) n

pub commas_more : (first : RawEq) (made : List RawEq) (x : RawEq) (v : List Marked) → BeginsWith first made →
    commas_text 1 (others_of (made ++ x ∷ [])) v ≡ commas_text 1 (others_of made)
    (sign Comma ∷ sides_text (premise_mark (length made)) x.left x.right v)
commas_more first [] x v h = absurd h
commas_more first (e ∷ es) x v h =
    let n : 1 + length es ≡ length (e ∷ es) = omega arith in
    commas_grow 1 es x v ∙ ap
    (λ (k : ℕ). commas_text 1 es (sign Comma ∷ sides_text (premise_mark k) x.left x.right v)) n

-- the first equation and the others
pub conclusions_made : (first : RawEq) (made : List RawEq) (v : List Marked) → BeginsWith first made →
    sides_text None first.left first.right (bars_text 1 (others_of made) v) ≡ conclusions_text made v
conclusions_made first [] v h = absurd h
conclusions_made first (e ∷ es) v h = ap (λ (q : RawEq). sides_text None q.left q.right (bars_text 1 es v)) (sym h)

pub premises_made : (first : RawEq) (made : List RawEq) (v : List Marked) → BeginsWith first made →
    sides_text None first.left first.right (commas_text 1 (others_of made) v) ≡ premises_text made v
premises_made first [] v h = absurd h
premises_made first (e ∷ es) v h = ap (λ (q : RawEq). sides_text None q.left q.right (commas_text 1 es v)) (sym h)

pub begins_some : (first : RawEq) (made : List RawEq) → BeginsWith first made → made ≢ []
begins_some first [] h e = h
begins_some first (x ∷ xs) h e = cc

-- the conclusions after the arrow, from the first one and the others
pub conclusions_read : {X : Type 0} (made : X → List RawEq) (rest : X → List Item) (items mid : List Item)
    (first : RawEq) (r : Result X Stop) → BeginsWord items →
    clean items ≡ sides_text None first.left first.right (clean mid) →
    ((st : List Symbol) → run (sides_then None st) items ≡ run st mid) → length mid ≤ length items →
    ReadsBars first made rest mid r → Reads (λ x. conclusions_text (made x)) rest (conclusions ∷ []) items r
conclusions_read made rest items mid first (Ok x) b text same less h = (
  text
      ∙ ap (sides_text None first.left first.right) h.1 ∙ conclusions_made first (made x) (clean (rest x)) h.0,
  λ st. conclusions_run items st b ∙ same (bars 1 ∷ st) ∙ h.2 st,
  omega arith,
)
conclusions_read made rest items mid first (Err OutOfMemory) b text same less h = tt
conclusions_read made rest items mid first (Err (Fault left why)) b text same less h = λ st. conclusions_run
    items st b ∙ same (bars 1 ∷ st) ∙ h st
