-- What an event writes in HTML.
use Rattle.std.specs.Prelude.{ℕ, List, [], ◌∷◌, ◌++◌, Bool, ◌==◌, ◌||◌, if◌then◌else◌, codes, flat_map}
use Rattle.std.specs.Fmt.{decimal}
use Rattle.page_core.specs.Head.{head, tail}
use Rattle.page_core.specs.declared.parts.Anchor.{Anchor}
use Rattle.page_core.specs.declared.parts.Anchor.TheVariants.{Goal as to_goal, Node as to_node}
use Rattle.page_core.specs.declared.parts.Part.{Part}
use Rattle.page_core.specs.declared.parts.Part.TheVariants.{Document, Heading, Goals, GoalLine, Goal, GoalHeading}
use Rattle.page_core.specs.declared.parts.Part.TheVariants.{Note, Node, Step, Case, CaseHeading, Value}

-- `<`, `>`, `&` or `"`
abbrev pub is_special : ℕ → Bool
is_special c = (c == 60) || (c == 62) || (c == 38) || (c == 34)

-- the entity for a special character
abbrev pub entity : ℕ → List ℕ
entity c =
    if c == 60 then codes "&lt;" else
    if c == 62 then codes "&gt;" else
    if c == 38 then codes "&amp;" else codes "&quot;"

abbrev pub escaped_byte : ℕ → List ℕ
escaped_byte c = if is_special c then entity c else c ∷ []

-- an entity for each special character, and every other byte itself
abbrev pub escaped : List ℕ → List ℕ
escaped text = flat_map escaped_byte text

-- `gN` for goal N, and `gNnM` for its node M
abbrev pub anchor_id : Anchor → List ℕ
anchor_id (to_goal goal) = codes "g" ++ decimal goal
anchor_id (to_node goal node) = codes "g" ++ decimal goal ++ codes "n" ++ decimal node

-- what is written where a part begins
abbrev pub opening : Part → List ℕ
opening Document = head
opening Heading = codes "<h1>"
opening Goals = codes "<ul class=\"goals\">"
opening GoalLine = codes "<li>"
opening (Goal goal) = codes "<section id=\"" ++ anchor_id (to_goal goal) ++ codes "\">"
opening GoalHeading = codes "<h2>"
opening Note = codes "<p>"
opening (Node goal node) = codes "<div class=\"node\" id=\"" ++ anchor_id (to_node goal node) ++ codes "\">"
opening Step = codes "<p class=\"step\">"
opening Case = codes "<details open>"
opening CaseHeading = codes "<summary>"
opening Value = codes "<p class=\"value\">"

-- what is written where a part ends
abbrev pub closing : Part → List ℕ
closing Document = tail
closing Heading = codes "</h1>\n"
closing Goals = codes "</ul>\n"
closing GoalLine = codes "</li>\n"
closing (Goal goal) = codes "</section>\n"
closing GoalHeading = codes "</h2>\n"
closing Note = codes "</p>\n"
closing (Node goal node) = codes "</div>\n"
closing Step = codes "</p>\n"
closing Case = codes "</details>\n"
closing CaseHeading = codes "</summary>\n"
closing Value = codes "</p>\n"

-- a link to an anchor of the same page
abbrev pub link_html : Anchor → List ℕ → List ℕ
link_html to text = codes "<a href=\"#" ++ anchor_id to ++ codes "\">" ++ escaped text ++ codes "</a>"
