-- What a page is written by.
use Rattle.std.specs.Prelude.{◌≢◌, ℕ, List, [], ◌∷◌, ◌++◌}
use Rattle.page_core.specs.declared.parts.Anchor.{Anchor}
use Rattle.page_core.specs.declared.parts.Part.{Part}
use Rattle.page_core.specs.declared.parts.Part.TheVariants.{Document}
use Rattle.page_core.specs.declared.parts.Style.{Style}

pub data Event : Type 0 where
  begins : Part → Event
  ends : Part → Event
  text : Style → List ℕ → Event
  link : Anchor → List ℕ → Event

-- a part and what it encloses
abbrev pub within : Part → List Event → List Event
within part body = begins part ∷ (body ++ ends part ∷ [])

-- what a document may enclose: texts, links and parts of such events, one after the other
pub data IsBalanced : List Event → Type 0 where
  nothing : IsBalanced []
  a_text : (style : Style) (bytes : List ℕ) → IsBalanced (text style bytes ∷ [])
  a_link : (to : Anchor) (bytes : List ℕ) → IsBalanced (link to bytes ∷ [])
  a_part : {body : List Event} (part : Part) → part ≢ Document → IsBalanced body → IsBalanced (within part body)
  joined : {events others : List Event} → IsBalanced events → IsBalanced others → IsBalanced (events ++ others)
