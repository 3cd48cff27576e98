-- The spines of both sides of an equation.
use Rattle.std.specs.Prelude.{◌⊎◌, List, map}
use Rattle.term_core.specs.Tree.{Tree}
use Rattle.spec_core.specs.declared.records.Equation.{Equation}
use Rattle.fitting_lists.specs.Spines.{spine_of, MayBecome}
use Rattle.proof_search.specs.declared.side_spines.SideSpines.{SideSpines}

-- the spines of these terms
abbrev pub spines_of : Tree → Tree → SideSpines
spines_of left right = record { left = spine_of left; right = spine_of right }

abbrev pub side_spines : Equation → SideSpines
side_spines e = spines_of e.left e.right

-- those of several equations, in their order
abbrev pub listed_spines : List Equation → List SideSpines
listed_spines es = map side_spines es

-- each side may become the other one's
abbrev pub SidesMayBecome : SideSpines → SideSpines → Type 0
SidesMayBecome p t = MayBecome p.left t.left × MayBecome p.right t.right

-- the other ones as they are, or those of the equation with its sides swapped
abbrev pub MayBecomeEither : SideSpines → SideSpines → Type 0
MayBecomeEither p t =
    SidesMayBecome p t ⊎ SidesMayBecome p (record { left = t.right; right = t.left })
