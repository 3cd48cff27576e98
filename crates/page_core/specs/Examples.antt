-- What the definitions say of a small page.
use Rattle.std.specs.Prelude.{◌≡◌, ℕ, List, [], ◌∷◌, ◌++◌, codes}
use Rattle.page_core.specs.Events.{Event, text, link, within}
use Rattle.page_core.specs.Head.{head, tail}
use Rattle.page_core.specs.Html.{escaped}
use Rattle.page_core.specs.Pages.{blank, after}
use Rattle.page_core.specs.declared.parts.Anchor.TheVariants.{Node as to_node}
use Rattle.page_core.specs.declared.parts.Format.{Format}
use Rattle.page_core.specs.declared.parts.Format.TheVariants.{Html, Text}
use Rattle.page_core.specs.declared.parts.Part.TheVariants.{Document, Goal, GoalHeading, Note, Node, Step, Case}
use Rattle.page_core.specs.declared.parts.Part.TheVariants.{CaseHeading}
use Rattle.page_core.specs.declared.parts.Style.TheVariants.{Plain, Marked}

-- the text of a page with these events
abbrev pub written : Format → List Event → List ℕ
written format events = (after (blank format) events).text

-- a node with a marked place, and a case of it with a node and its step
abbrev pub first_node : List Event
first_node =
    within (Node 0 0) (text Plain (codes "0  ") ∷ text Marked (codes "plus(") ∷ text Marked (codes "x, 0)")
    ∷ text Plain (codes " = x") ∷ [])

abbrev pub second_node : List Event
second_node = within (Node 0 12) (text Plain (codes "12  a < b") ∷ [])

abbrev pub small_case : List Event
small_case =
    within Case (within CaseHeading (text Plain (codes "x = succ(y)") ∷ []) ++ (second_node
    ++ within Step (text Plain (codes "by ") ∷ link (to_node 0 0) (codes "node 0") ∷ [])))

abbrev pub small_goal : List Event
small_goal = within (Goal 0) (within GoalHeading (text Plain (codes "right_zero") ∷ []) ++ (first_node ++ small_case))

pub record WorkedExamples : Type 0 where
  pub escapes : escaped (codes "a < b & \"c\" > d") ≡ codes "a &lt; b &amp; &quot;c&quot; &gt; d"
  pub html : written Html small_goal ≡
      codes "<section id=\"g0\"><h2>right_zero</h2>\n"
      ++ codes "<div class=\"node\" id=\"g0n0\">0  <mark>plus(x, 0)</mark> = x</div>\n"
      ++ codes "<details open><summary>x = succ(y)</summary>\n"
      ++ codes "<div class=\"node\" id=\"g0n12\">12  a &lt; b</div>\n"
      ++ codes "<p class=\"step\">by <a href=\"#g0n0\">node 0</a></p>\n"
      ++ codes "</details>\n</section>\n"
  pub plain : written Text small_goal ≡
      codes "\nright_zero\n"
      ++ codes "0  [plus(x, 0)] = x\n"
      ++ codes "x = succ(y)\n"
      ++ codes "  12  a < b\n"
      ++ codes "      by node 0\n"
  -- a mark ends at the latest with its part
  pub marked : written Html (within Note (text Marked (codes "x") ∷ [])) ≡ codes "<p><mark>x</mark></p>\n"
  pub empty : written Html (within Document []) ≡ head ++ tail
