-- The line of an accepted specification, piece by piece.
use Rattle.std.proofs.Common.{◌≡◌, ℕ, List, ◌++◌, ap, ◌∙◌, length, append_assoc}
use Rattle.std.specs.Prelude.{codes}
use Rattle.std.specs.Fmt.{decimal}
use Rattle.spec_grammar.specs.declared.raw.RawSpec.{RawSpec}
use Rattle.spike_cli.specs.Checks.{accepted_line, constructor_count}

-- the line with these numbers
abbrev pub line_with : ℕ → ℕ → ℕ → ℕ → ℕ → List ℕ
line_with s c f r g =
    codes "accepted sorts " ++ decimal s ++ codes " constructors " ++ decimal c ++ codes " functions " ++ decimal f
    ++ codes " rules " ++ decimal r ++ codes " goals " ++ decimal g ++ codes "\n"

in_a_row : (a s ds c dc f df r dr g dg e : List ℕ) →
    (((((a ++ (s ++ ds)) ++ (c ++ dc)) ++ (f ++ df)) ++ (r ++ dr)) ++ (g ++ dg))
    ++ e ≡ ((((((((((a ++ s) ++ ds) ++ c) ++ dc) ++ f) ++ df) ++ r) ++ dr) ++ g) ++ dg) ++ e
in_a_row a s ds c dc f df r dr g dg e = simp append_assoc

pub line_made : (s c f r g : ℕ) (t0 t1 t2 t3 t4 t5 t6 : List ℕ) → t0 ≡ codes "accepted" →
    t1 ≡ t0 ++ (codes " sorts " ++ decimal s) → t2 ≡ t1 ++ (codes " constructors " ++ decimal c) →
    t3 ≡ t2 ++ (codes " functions " ++ decimal f) → t4 ≡ t3 ++ (codes " rules " ++ decimal r) →
    t5 ≡ t4 ++ (codes " goals " ++ decimal g) → t6 ≡ t5 ++ codes "\n" → t6 ≡ line_with s c f r g
line_made s c f r g t0 t1 t2 t3 t4 t5 t6 e0 e1 e2 e3 e4 e5 e6 =
    let ss : List ℕ = codes " sorts " ++ decimal s in
    let cs : List ℕ = codes " constructors " ++ decimal c in
    let fs : List ℕ = codes " functions " ++ decimal f in
    let rs : List ℕ = codes " rules " ++ decimal r in
    let gs : List ℕ = codes " goals " ++ decimal g in
    e6 ∙ ap (λ t. t ++ codes "\n")
    (e5 ∙ ap (λ t. t ++ gs)
    (e4 ∙ ap (λ t. t ++ rs) (e3 ∙ ap (λ t. t ++ fs) (e2 ∙ ap (λ t. t ++ cs) (e1 ∙ ap (λ t. t ++ ss) e0)))))
    ∙ in_a_row (codes "accepted") (codes " sorts ") (decimal s) (codes " constructors ") (decimal c)
    (codes " functions ") (decimal f) (codes " rules ") (decimal r) (codes " goals ") (decimal g) (codes "\n")

pub line_of : (raw : RawSpec) (s c f r g : ℕ) → s ≡ length raw.sorts → c ≡ constructor_count raw.sorts →
    f ≡ length raw.funs → r ≡ length raw.rules → g ≡ length raw.goals → line_with s c f r g ≡ accepted_line raw
line_of raw s c f r g a b d e h = λ i. line_with (a i) (b i) (d i) (e i) (h i)
