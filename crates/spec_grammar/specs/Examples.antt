-- Small texts and faults.
use Rattle.std.specs.Prelude.{◌≡◌, ℕ, zero, suc, List, [], ◌∷◌, ◌++◌, Option, Some, None, codes}
use Rattle.spec_grammar.specs.declared.keys.Key.TheVariants.{Spike, Goal, Equal, Status, Order, LeftPar, RightPar}
use Rattle.spec_grammar.specs.declared.keys.Key.TheVariants.{Comma, Colon, Equals, Arrow}
use Rattle.spec_grammar.specs.declared.limits.LimitKind.TheVariants as limit
use Rattle.spec_grammar.specs.declared.raw.RawEq.{RawEq}
use Rattle.spec_grammar.specs.declared.raw.RawEqual.{RawEqual}
use Rattle.spec_grammar.specs.declared.raw.RawStatus.{RawStatus}
use Rattle.spec_grammar.specs.declared.raw.RawWeight.{RawWeight}
use Rattle.spec_grammar.specs.declared.raw.RawOrder.{RawOrder}
use Rattle.spec_grammar.specs.declared.raw.RawGoal.{RawGoal}
use Rattle.spec_grammar.specs.declared.raw.RawName.{RawName}
use Rattle.spec_grammar.specs.declared.raw.RawSpec.{RawSpec}
use Rattle.spec_grammar.specs.RawTree.{RawTree, word, none, some}
use Rattle.spec_grammar.specs.FormatOne.{format_one}
use Rattle.spec_grammar.specs.Items.{Item, Word, Sign, Number}
use Rattle.spec_grammar.specs.Limits.{term_mark, rule_mark, conclusion_mark}
use Rattle.spec_grammar.specs.Grammar.{IsSpecText, IsTermText}
use Rattle.spec_grammar.specs.Derives.{Derives, IsFault}
use Rattle.spec_grammar.specs.KeepsLimits.{raw_depth, TermKeepsLimits}

-- `f(x, y)` at the places of its words
abbrev pub pair_term : RawTree
pair_term =
    word (codes "f") 0 (some (word (codes "x") 2 none) (some (word (codes "y") 5 none) none))

abbrev pub pair_items : List Item
pair_items = Word (codes "f") 0 ∷ Sign LeftPar ∷ Word (codes "x") 2 ∷ Sign Comma
    ∷ Word (codes "y") 5 ∷ Sign RightPar ∷ []

-- `f(..f(x)..)`, with n words above the last
abbrev pub chain : ℕ → RawTree
chain zero = word (codes "x") 0 none
chain (suc n) = word (codes "f") 0 (some (chain n) none)

-- `x = y` at these places
abbrev pub equation : ℕ → ℕ → RawEq
equation x y = record { left = word (codes "x") x none; right = word (codes "y") y none }

-- one goal `g` at the place 13
abbrev pub one_goal : List RawEq → RawSpec
one_goal conclusions =
    let head : RawName = record { name = codes "g"; at = 13 } in
    let goal : RawGoal =
    record { head = head; binds = []; premises = []; conclusions = conclusions } in
    format_one [] [] [] (goal ∷ [])

abbrev pub goal_items : List Item → List Item
goal_items clause = Sign Spike ∷ Number 1 ∷ Sign Goal ∷ Word (codes "g") 13 ∷ Sign Colon ∷ clause

-- `x = y` at these places, as tokens
abbrev pub equation_items : ℕ → ℕ → List Item
equation_items x y = Word (codes "x") x ∷ Sign Equals ∷ Word (codes "y") y ∷ []

-- `equal f, g` and `status h(2, 1)` at these places
abbrev pub one_equal : RawEqual
one_equal = record {
  names = record { name = codes "f"; at = 14 } ∷ record { name = codes "g"; at = 17 } ∷ [];
}

abbrev pub equal_items : List Item
equal_items = Sign Equal ∷ Word (codes "f") 14 ∷ Sign Comma ∷ Word (codes "g") 17 ∷ []

abbrev pub one_status : RawStatus
one_status = record { head = record { name = codes "h"; at = 26 }; numbers = 2 ∷ 1 ∷ [] }

abbrev pub status_items : List Item
status_items = Sign Status ∷ Word (codes "h") 26 ∷ Sign LeftPar ∷ Number 2 ∷ Sign Comma
    ∷ Number 1 ∷ Sign RightPar ∷ []

-- `order kbo : f = 2, g = 3` at these places
abbrev pub one_order : List RawWeight → RawOrder
one_order weights = record { name = record { name = codes "kbo"; at = 14 }; weights = weights }

abbrev pub two_weights : List RawWeight
two_weights =
    record { name = record { name = codes "f"; at = 20 }; weight = 2 }
    ∷ record { name = record { name = codes "g"; at = 27 }; weight = 3 } ∷ []

abbrev pub order_items : List Item
order_items = Sign Order ∷ Word (codes "kbo") 14 ∷ []

abbrev pub weight_items : List Item
weight_items = Sign Colon ∷ Word (codes "f") 20 ∷ Sign Equals ∷ Number 2 ∷ Sign Comma
    ∷ Word (codes "g") 27 ∷ Sign Equals ∷ Number 3 ∷ []

-- these lines alone, in format 2
abbrev pub format_two : List RawEqual → List RawStatus → Option RawOrder → RawSpec
format_two equals statuses order = record {
  version = 2;
  sorts = [];
  funs = [];
  equals = equals;
  statuses = statuses;
  order = order;
  rules = [];
  goals = [];
}

pub record WorkedExamples : Type 0 where
  -- the header alone
  pub header : Derives IsSpecText (Sign Spike ∷ Number 1 ∷ []) (format_one [] [] [] [])
  pub header_of_format_two : Derives IsSpecText (Sign Spike ∷ Number 2 ∷ []) (format_two [] [] None)
  -- there is no third format, and no function is ordered in the first
  pub other_format : IsFault IsSpecText (Sign Spike ∷ []) (Number 3 ∷ []) None
  -- two functions of one level, and an order of two arguments
  pub ordered : Derives IsSpecText (Sign Spike ∷ Number 2 ∷ equal_items ++ status_items)
      (format_two (one_equal ∷ []) (one_status ∷ []) None)
  -- a line `equal` names two functions at least, and comes before each line `status`
  pub one_name : IsFault IsSpecText
      (Sign Spike ∷ Number 2 ∷ Sign Equal ∷ Word (codes "f") 14 ∷ []) [] None
  pub equal_after_status :
      IsFault IsSpecText (Sign Spike ∷ Number 2 ∷ status_items) equal_items None
  -- the ordering by weights, with some weights and without
  pub weighed : Derives IsSpecText (Sign Spike ∷ Number 2 ∷ order_items ++ weight_items)
      (format_two [] [] (Some (one_order two_weights)))
  pub unweighed : Derives IsSpecText (Sign Spike ∷ Number 2 ∷ order_items)
      (format_two [] [] (Some (one_order [])))
  -- a colon has a weight after it, and there is one line `order`, which format 1 hasn't
  pub no_weight : IsFault IsSpecText
      (Sign Spike ∷ Number 2 ∷ order_items ++ Sign Colon ∷ []) [] None
  pub second_order : IsFault IsSpecText (Sign Spike ∷ Number 2 ∷ order_items) order_items None
  pub order_in_format_one : IsFault IsSpecText (Sign Spike ∷ Number 1 ∷ []) order_items None
  -- a conclusion without the arrow and with it, and no equation at all
  pub without_arrow :
      Derives IsSpecText (goal_items (equation_items 17 21)) (one_goal (equation 17 21 ∷ []))
  pub with_arrow : Derives IsSpecText (goal_items (Sign Arrow ∷ equation_items 20 24))
      (one_goal (equation 20 24 ∷ []))
  pub nothing : Derives IsSpecText (goal_items (Sign Arrow ∷ [])) (one_goal [])
  pub arguments : Derives IsTermText pair_items pair_term
  -- no term begins with a comma
  pub comma : IsFault IsTermText [] (Sign Comma ∷ pair_items) None
  -- the eighth argument is the last, a word below 64 others is one too deep, the fifth conclusion
  -- is one too many
  pub eighth : term_mark 1 7 ≡ None
  pub ninth : term_mark 1 8 ≡ Some limit.Arity
  pub deep : term_mark 64 0 ≡ Some limit.Nesting
  pub fifth : conclusion_mark 4 ≡ Some limit.Conclusions
  -- format 1 has 1,000 rules at most, and format 2 has more
  pub last_rule : rule_mark 1 999 ≡ None
  pub rule_too_many : rule_mark 1 1000 ≡ Some limit.Rules
  pub more_rules : rule_mark 2 1000 ≡ None
  -- a word alone has the depth 1; the deepest term has 63 words above its last, and with 64 it is
  -- too deep
  pub depth_of_word : raw_depth (word (codes "x") 0 none) ≡ 1
  pub depth_of_pair : raw_depth pair_term ≡ 2
  pub deepest : TermKeepsLimits (chain 63)
  pub too_deep : TermKeepsLimits (chain 64) → ⊥
