-- What each event writes in HTML is markup.
use Rattle.std.proofs.Common.{rules, ◌≡◌, ◌≢◌, ℕ, List, [], ◌∷◌, ◌++◌, Bool, true, false, cond}
use Rattle.std.proofs.Common.{refl, subst, ap, ◌∙◌, append_assoc}
use Rattle.std.specs.Prelude.{codes, IsTrue}
use Rattle.std.specs.Fmt.{decimal}
use Rattle.term_core.proofs.Items.{all_append}
use Rattle.page_core.specs.Html.{is_special, entity, escaped, anchor_id, opening, closing, link_html}
use Rattle.page_core.specs.Markup.{IsPlain, is_name, AreAttributes, nothing, lone, valued, joined as both_attributes}
use Rattle.page_core.specs.Markup.{IsMarkup, plain, an_entity, element, joined, opening_tag, closing_tag}
use Rattle.page_core.proofs.PlainTexts.{decimal_plain}
use Rattle.page_core.specs.declared.parts.Anchor.{Anchor}
use Rattle.page_core.specs.declared.parts.Anchor.TheVariants.{Goal as to_goal, Node as to_node}
use Rattle.page_core.specs.declared.parts.Part.{Part}
use Rattle.page_core.specs.declared.parts.Part.TheVariants.{Document, Heading, Goals, GoalLine, Goal, GoalHeading}
use Rattle.page_core.specs.declared.parts.Part.TheVariants.{Note, Node, Step, Case, CaseHeading, Value}

byte_markup : (special : Bool) (c : ℕ) → is_special c ≡ special → IsMarkup (cond special (entity c) (c ∷ []))
byte_markup true c is = an_entity c is
byte_markup false c is = plain (c ∷ []) (is, tt)

pub escaped_markup : (text : List ℕ) → IsMarkup (escaped text)
escaped_markup [] = plain [] tt
escaped_markup (c ∷ text) = joined (byte_markup (is_special c) c refl) (escaped_markup text)

abbrev plain_byte : ℕ → Type 0
plain_byte c = is_special c ≡ false

anchor_plain : (to : Anchor) → IsPlain (anchor_id to)
anchor_plain (to_goal goal) = (refl, decimal_plain goal)
anchor_plain (to_node goal node) =
    let begins = all_append plain_byte (decimal goal) (codes "n") (decimal_plain goal) (refl, tt) in
    (refl, all_append plain_byte (decimal goal ++ codes "n") (decimal node) begins (decimal_plain node))

-- an element that ends a line, and the same by its two tags
line : (name attributes inner : List ℕ) → IsTrue (is_name name) → AreAttributes attributes → IsMarkup inner
    → IsMarkup (opening_tag name attributes ++ (inner ++ (closing_tag name ++ codes "\n")))
line name attributes inner named attributed markup =
    let first = opening_tag name attributes in
    let last = closing_tag name in
    let whole : IsMarkup ((first ++ (inner ++ last)) ++ codes "\n") =
    joined (element name attributes inner named attributed markup) (plain (codes "\n") (refl, tt)) in
    let ends : (inner ++ last) ++ codes "\n" ≡ inner ++ (last ++ codes "\n") = append_assoc inner last (codes "\n") in
    let same : (first ++ (inner ++ last)) ++ codes "\n" ≡ first ++ (inner ++ (last ++ codes "\n")) =
    append_assoc first (inner ++ last) (codes "\n") ∙ ap (λ rest. first ++ rest) ends in
    subst IsMarkup same whole

line_by : (name attributes inner first last : List ℕ) → IsTrue (is_name name) → AreAttributes attributes
    → IsMarkup inner → opening_tag name attributes ≡ first → closing_tag name ++ codes "\n" ≡ last
    → IsMarkup (first ++ (inner ++ last))
line_by name attributes inner first last named attributed markup opens closes =
    subst (λ o. IsMarkup (o ++ (inner ++ last))) opens
    (subst (λ c. IsMarkup (opening_tag name attributes ++ (inner ++ c))) closes
    (line name attributes inner named attributed markup))

class_plain : (name : List ℕ) → IsPlain name → AreAttributes (codes " class=\"" ++ (name ++ codes "\""))
class_plain name simple = valued (codes "class") name refl simple

id_plain : (to : Anchor) → AreAttributes (codes " id=\"" ++ (anchor_id to ++ codes "\""))
id_plain to = valued (codes "id") (anchor_id to) refl (anchor_plain to)

-- a line without attributes, and one with a class
simple_line : (name inner first last : List ℕ) → IsTrue (is_name name) → IsMarkup inner
    → opening_tag name [] ≡ first → closing_tag name ++ codes "\n" ≡ last → IsMarkup (first ++ (inner ++ last))
simple_line name inner first last named markup opens closes =
    line_by name [] inner first last named nothing markup opens closes

class_line : (name class inner first last : List ℕ) → IsTrue (is_name name) → IsPlain class → IsMarkup inner
    → opening_tag name (codes " class=\"" ++ (class ++ codes "\"")) ≡ first → closing_tag name ++ codes "\n" ≡ last
    → IsMarkup (first ++ (inner ++ last))
class_line name class inner first last named simple markup opens closes =
    line_by name (codes " class=\"" ++ (class ++ codes "\"")) inner first last named (class_plain class simple)
    markup opens closes

-- a part in a document is an element that ends a line
pub part_markup : (part : Part) (inner : List ℕ) → part ≢ Document → IsMarkup inner
    → IsMarkup (opening part ++ (inner ++ closing part))
part_markup Document inner other markup = absurd (other refl)
part_markup Heading inner other markup = simple_line (codes "h1") inner _ _ refl markup refl refl
part_markup Goals inner other markup =
    class_line (codes "ul") (codes "goals") inner _ _ refl (search rules) markup refl refl
part_markup GoalLine inner other markup = simple_line (codes "li") inner _ _ refl markup refl refl
part_markup (Goal goal) inner other markup =
    line_by (codes "section") (codes " id=\"" ++ (anchor_id (to_goal goal) ++ codes "\"")) inner
    (opening (Goal goal)) (closing (Goal goal)) refl (id_plain (to_goal goal)) markup (simp append_assoc refl) refl
part_markup GoalHeading inner other markup = simple_line (codes "h2") inner _ _ refl markup refl refl
part_markup Note inner other markup = simple_line (codes "p") inner _ _ refl markup refl refl
part_markup (Node goal node) inner other markup =
    line_by (codes "div") (codes " class=\"node\"" ++ (codes " id=\"" ++ (anchor_id (to_node goal node) ++ codes "\"")))
    inner (opening (Node goal node)) (closing (Node goal node)) refl
    (both_attributes (class_plain (codes "node") (search rules)) (id_plain (to_node goal node))) markup
    (simp append_assoc refl) refl
part_markup Step inner other markup =
    class_line (codes "p") (codes "step") inner _ _ refl (search rules) markup refl refl
part_markup Case inner other markup =
    line_by (codes "details") (codes " open") inner _ _ refl (lone (codes "open") refl) markup refl refl
part_markup CaseHeading inner other markup = simple_line (codes "summary") inner _ _ refl markup refl refl
part_markup Value inner other markup =
    class_line (codes "p") (codes "value") inner _ _ refl (search rules) markup refl refl

pub link_markup : (to : Anchor) (text : List ℕ) → IsMarkup (link_html to text)
link_markup to text =
    let attribute = valued (codes "href") (codes "#" ++ anchor_id to) refl (refl, anchor_plain to) in
    let whole = element (codes "a") (codes " href=\"#" ++ (anchor_id to ++ codes "\"")) (escaped text) refl attribute
    (escaped_markup text) in
    let same : opening_tag (codes "a") (codes " href=\"#" ++ (anchor_id to ++ codes "\""))
    ++ (escaped text ++ closing_tag (codes "a")) ≡ link_html to text = simp append_assoc refl in
    subst IsMarkup same whole

pub mark_markup : (inner : List ℕ) → IsMarkup inner → IsMarkup (codes "<mark>" ++ (inner ++ codes "</mark>"))
mark_markup inner markup = element (codes "mark") [] inner refl nothing markup
