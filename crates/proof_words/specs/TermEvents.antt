-- Terms as texts of a page, with a subterm marked.
use Rattle.std.specs.Prelude.{ℕ, zero, suc, ◌==◌, nat_le, List, [], ◌∷◌, ◌++◌, Option, Some, None, if◌then◌else◌}
use Rattle.std.specs.Prelude.{codes, slice_get}
use Rattle.term_core.specs.Tree.{Tree, Trees, var, app, none, some, tree_size}
use Rattle.spec_core.specs.Sig.{Sig, names_of}
use Rattle.spec_core.specs.TermText.{symbol_text, variable_text}
use Rattle.page_core.specs.Events.{Event, text}
use Rattle.page_core.specs.declared.parts.Style.{Style}
use Rattle.page_core.specs.declared.parts.Style.TheVariants.{Plain, Marked}

-- the style of a term's own texts, where the subterm at this path is marked, or none is
abbrev pub style_of : Option (List ℕ) → Style
style_of None = Plain
style_of (Some []) = Marked
style_of (Some (number ∷ path)) = Plain

-- what is marked in the argument of this number, which counts from 1
abbrev pub mark_in : ℕ → Option (List ℕ) → Option (List ℕ)
mark_in number None = None
mark_in number (Some []) = Some []
mark_in number (Some (other ∷ path)) = if other == number then Some path else None

-- `…`, for what isn't shown
abbrev pub omitted : List ℕ
omitted = 226 ∷ 128 ∷ 166 ∷ []

-- a side of at most 150 symbols and variables is shown whole, and a larger one to depth 6
abbrev pub shown_depth : Tree → ℕ
shown_depth t = if nat_le (tree_size t) 150 then tree_size t else 6

module _ (sig : Sig) (names : List (List ℕ)) where
  -- a name alone, or a name and its arguments in parentheses with `, ` between them, to this depth
  abbrev mutual
    pub term_events : Option (List ℕ) → ℕ → Tree → List Event
    term_events mark zero t = text (style_of mark) omitted ∷ []
    term_events mark (suc depth) (var n) =
        text (style_of mark) (variable_text (slice_get names n) n) ∷ []
    term_events mark (suc depth) (app f none) =
        text (style_of mark) (symbol_text (slice_get (names_of sig) f)) ∷ []
    term_events mark (suc depth) (app f (some t ts)) =
        text (style_of mark) (symbol_text (slice_get (names_of sig) f))
        ∷ text (style_of mark) (codes "(")
        ∷ (term_events (mark_in 1 mark) depth t
        ++ (others_events mark 2 depth ts ++ text (style_of mark) (codes ")") ∷ []))

    -- the arguments from this number on
    pub others_events : Option (List ℕ) → ℕ → ℕ → Trees → List Event
    others_events mark number depth none = []
    others_events mark number depth (some t ts) =
        text (style_of mark) (codes ", ")
        ∷ (term_events (mark_in number mark) depth t
        ++ others_events mark (suc number) depth ts)

  -- a side of an equation
  abbrev pub side_events : Option (List ℕ) → Tree → List Event
  side_events mark t = term_events mark (shown_depth t) t
