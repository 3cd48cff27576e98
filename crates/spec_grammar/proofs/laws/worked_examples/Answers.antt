use Rattle.std.proofs.Common.{◌≡◌, ◌≢◌, ℕ, zero, suc, ◌+◌, List, [], ◌∷◌, ◌++◌, inl, inr, Some, None, refl, ap, sym}
use Rattle.std.proofs.Common.{◌∙◌, arith}
use Rattle.std.specs.Prelude.{codes}
use Rattle.spec_grammar.specs.declared.keys.Key.{Key}
use Rattle.spec_grammar.specs.declared.keys.Key.TheVariants.{Comma, Colon, Spike, Equal}
use Rattle.spec_grammar.specs.declared.raw.RawEq.{RawEq}
use Rattle.spec_grammar.specs.declared.raw.RawSpec.{RawSpec}
use Rattle.spec_grammar.specs.RawTree.{RawTree, word}
use Rattle.spec_grammar.specs.FormatOne.{format_one}
use Rattle.spec_grammar.specs.Items.{Item, Word, Sign, Number}
use Rattle.spec_grammar.specs.Grammar.{Marked, IsSpecText, IsTermText}
use Rattle.spec_grammar.specs.Derives.{Derives, IsFault, bare, clean}
use Rattle.spec_grammar.specs.KeepsLimits.{raw_depth, WordsKeepLimits}
use Rattle.spec_grammar.specs.Examples.{pair_term, pair_items, chain, one_equal, equal_items, one_status, status_items}
use Rattle.spec_grammar.specs.Examples.{one_order, two_weights, order_items, weight_items, format_two}
use Rattle.spec_grammar.specs.Symbols.{run, spec_symbols}
use Rattle.spec_grammar.proofs.Agrees.{spec_agrees}
use Rattle.spec_grammar.proofs.Means.{spec_means}
use Rattle.spec_grammar.proofs.Whole.{is_fault}
use Rattle.spec_grammar.proofs.laws.worked_examples.Goals as goal

word_sign : {b : List ℕ} {a : ℕ} {k : Key} {xs ys : List Item} → Word b a ∷ xs ≡ Sign k ∷ ys → ⊥
word_sign e = cc

cons_nil : {q : RawEq} → q ∷ [] ≢ []
cons_nil e = cc

-- a term begins with its word
no_comma : (t : RawTree) (w : List Marked) (rest : List Item) → IsTermText t w → bare w ≡ Sign Comma ∷ rest → ⊥
no_comma (word b a ts) w rest h e = word_sign (sym (ap bare h) ∙ e)

depth-chain : (n : ℕ) → raw_depth (chain n) ≡ n + 1
depth-chain zero = refl
depth-chain (suc n) = omega (arith, depth-chain n)

chain_words : (n : ℕ) → WordsKeepLimits (chain n)
chain_words zero = (omega arith, omega arith, tt)
chain_words (suc n) = (omega arith, omega arith, (chain_words n, tt))

-- the headers alone, and another number in it
abbrev no_declarations : RawSpec
no_declarations = format_one [] [] [] []

header : Derives IsSpecText (Sign Spike ∷ Number 1 ∷ []) no_declarations
header = ([], [], [], refl, refl, ([], [], refl, refl, refl), refl, inl (refl, refl, refl, refl))

header_of_format_two : Derives IsSpecText (Sign Spike ∷ Number 2 ∷ []) (format_two [] [] None)
header_of_format_two = ([], [], [], refl, refl, ([], [], refl, refl, refl), refl, inr refl)

second_number : {m n : ℕ} {x : Item} {xs ys : List Item} → x ∷ Number m ∷ xs ≡ x ∷ Number n ∷ ys → m ≡ n
second_number e = cc

no_other_format : (raw : RawSpec) (w : List Marked) (rest : List Item) → IsSpecText raw w
    → bare w ≡ Sign Spike ∷ Number 3 ∷ rest → ⊥
no_other_format raw w rest (sorts, order, goals, is, are_sorts, is_order, are_goals, known) e =
    let same = second_number (sym (ap bare is) ∙ e) in
    elim known [
      | inl first ↦ omega (arith, same, first.0)
      | inr second ↦ omega (arith, same, second)
    ]

-- lines that order functions
ordered : Derives IsSpecText (Sign Spike ∷ Number 2 ∷ equal_items ++ status_items)
    (format_two (one_equal ∷ []) (one_status ∷ []) None)
ordered = (
  _,
  _,
  [],
  refl,
  refl,
  (clean status_items, [], (_, _, [], clean status_items, refl, refl, refl), (_, _, [], refl, refl, refl), refl),
  refl,
  inr refl,
)

-- a line of one name ends too soon, and no line `equal` follows a line `status`
one_name : IsFault IsSpecText (Sign Spike ∷ Number 2 ∷ Sign Equal ∷ Word (codes "f") 14 ∷ []) [] None
unfolding run
one_name =
    is_fault spec_symbols IsSpecText spec_agrees spec_means
    (Sign Spike ∷ Number 2 ∷ Sign Equal ∷ Word (codes "f") 14 ∷ []) [] None _
    (_, refl, (_, refl, (_, refl, (_, refl, refl)))) tt refl

equal_after_status : IsFault IsSpecText (Sign Spike ∷ Number 2 ∷ status_items) equal_items None
unfolding run
equal_after_status =
    is_fault spec_symbols IsSpecText spec_agrees spec_means (Sign Spike ∷ Number 2 ∷ status_items) equal_items None _
    (_, refl, (_, refl, (_, refl, (_, refl, (_, refl, (_, refl, (_, refl, (_, refl, (_, refl, refl)))))))))
    tt refl

-- the line of the order, with weights and without
weighed : Derives IsSpecText (Sign Spike ∷ Number 2 ∷ order_items ++ weight_items)
    (format_two [] [] (Some (one_order two_weights)))
weighed = (_, _, [], refl, refl, (_, _, refl, refl, refl), refl, inr refl)

unweighed : Derives IsSpecText (Sign Spike ∷ Number 2 ∷ order_items)
    (format_two [] [] (Some (one_order [])))
unweighed = (_, _, [], refl, refl, (_, _, refl, refl, refl), refl, inr refl)

-- a colon alone ends too soon, and there is no second line
no_weight : IsFault IsSpecText (Sign Spike ∷ Number 2 ∷ order_items ++ Sign Colon ∷ []) [] None
unfolding run
no_weight =
    is_fault spec_symbols IsSpecText spec_agrees spec_means
    (Sign Spike ∷ Number 2 ∷ order_items ++ Sign Colon ∷ []) [] None _
    (_, refl, (_, refl, (_, refl, (_, refl, (_, refl, refl))))) tt refl

second_order : IsFault IsSpecText (Sign Spike ∷ Number 2 ∷ order_items) order_items None
unfolding run
second_order =
    is_fault spec_symbols IsSpecText spec_agrees spec_means (Sign Spike ∷ Number 2 ∷ order_items) order_items None _
    (_, refl, (_, refl, (_, refl, (_, refl, refl)))) tt refl

order_in_format_one : IsFault IsSpecText (Sign Spike ∷ Number 1 ∷ []) order_items None
unfolding run
order_in_format_one =
    is_fault spec_symbols IsSpecText spec_agrees spec_means (Sign Spike ∷ Number 1 ∷ []) order_items None _
    (_, refl, (_, refl, refl)) tt refl

pub returns : goal.returns
returns c = record {
  header = header;
  header_of_format_two = header_of_format_two;
  ordered = ordered;
  one_name = one_name;
  equal_after_status = equal_after_status;
  weighed = weighed;
  unweighed = unweighed;
  no_weight = no_weight;
  second_order = second_order;
  order_in_format_one = order_in_format_one;
  other_format = ((no_declarations, (Number 1, None) ∷ [], header), λ c. no_other_format c.0 c.1 c.2 c.3 c.4);
  without_arrow = (
    _,
    _,
    _,
    refl,
    refl,
    (_, _, refl, refl, refl),
    (_, [], refl, inr (refl, cons_nil, refl), refl),
    inl (refl, refl, refl, refl),
  );
  with_arrow = (
    _,
    _,
    _,
    refl,
    refl,
    (_, _, refl, refl, refl),
    (_, [], refl, inl refl, refl),
    inl (refl, refl, refl, refl),
  );
  nothing = (
    _,
    _,
    _,
    refl,
    refl,
    (_, _, refl, refl, refl),
    (_, [], refl, inl refl, refl),
    inl (refl, refl, refl, refl),
  );
  arguments = refl;
  comma = ((pair_term, clean pair_items, refl), λ c. no_comma c.0 c.1 c.2 c.3 c.4);
  eighth = refl;
  ninth = refl;
  deep = refl;
  fifth = refl;
  last_rule = refl;
  rule_too_many = refl;
  more_rules = refl;
  depth_of_word = refl;
  depth_of_pair = refl;
  deepest = record { depth = omega (arith, depth-chain 63); words = chain_words 63 };
  too_deep = λ h. absurd (omega (arith, depth-chain 64, h.depth));
}
