-- What a search asks of rows and sorts stays so when they are opened, moved or shortened.
use Rattle.std.proofs.Common.{◌≡◌, ℕ, List, ◌∷◌, ◌++◌, Some, map, length, ap, sym, ◌∙◌, subst}
use Rattle.term_core.specs.Tree.{Tree}
use Rattle.term_core.specs.declared.ids.SortId.{SortId}
use Rattle.spec_core.specs.declared.records.SymInfo.{SymInfo}
use Rattle.spec_core.specs.Sig.{Sig, info_of, IsSort}
use Rattle.coverage_check.specs.Opened.{rests, opened}
use Rattle.coverage_check.specs.Columns.{fronted}
use Rattle.coverage_check.specs.Decisions.{IsMatrix}
use Rattle.coverage_check.proofs.Deciding.{in_range, all_joined, rows_fronted, sorts_fronted}
use Rattle.coverage_check.proofs.NamedValues.{rests_sorts}
use Rattle.coverage_check.proofs.OpenedRows.{opened_sorts}

-- what the code opens by the length of a slice, and joins to it
pub opened_by : (c : ℕ) (rows : List (List Tree)) {args slice : List SortId} {now made : List (List Tree)} →
    now ≡ made → made ≡ opened c (length slice) rows → slice ≡ args → now ≡ opened c (length args) rows
opened_by c rows p q r = p ∙ q ∙ ap (λ (ss : List SortId). opened c (length ss) rows) r

pub joined_by : (others : List SortId) {args slice now made : List SortId} → now ≡ made →
    made ≡ slice ++ others → slice ≡ args → now ≡ args ++ others
joined_by others p q r = p ∙ q ∙ ap (λ ss. ss ++ others) r

module _ (sig : Sig) (blank : Tree) where
  pub matrix_along : {rows moved : List (List Tree)} {sorts others : List SortId} → moved ≡ rows →
      others ≡ sorts → IsMatrix sig rows sorts blank → IsMatrix sig moved others blank
  matrix_along {rows} {moved} {sorts} {others} p q m = subst (λ rs. IsMatrix sig rs others blank) (sym p)
      (subst (λ ss. IsMatrix sig rows ss blank) (sym q) m)

  pub opened_matrix : (c : ℕ) (i : SymInfo) (s : SortId) (ss : List SortId) (rows : List (List Tree)) →
      info_of sig c ≡ Some i → IsMatrix sig rows (s ∷ ss) blank →
      IsMatrix sig (opened c (length i.args) rows) (i.args ++ ss) blank
  opened_matrix c i s ss rows at m = record {
    declared = m.declared;
    range = all_joined sig (IsSort sig) i.args ss (in_range sig m.declared c i at).1 m.range.1;
    patterns = opened_sorts sig c i at s ss rows m.patterns;
    variable = m.variable;
  }

  pub fronted_matrix : (k : ℕ) (sorts : List SortId) (rows : List (List Tree)) → IsMatrix sig rows sorts blank →
      IsMatrix sig (map (fronted k) rows) (fronted k sorts) blank
  fronted_matrix k sorts rows m = record {
    declared = m.declared;
    range = sorts_fronted sig (IsSort sig) k sorts m.range;
    patterns = rows_fronted sig k sorts rows m.patterns;
    variable = m.variable;
  }

  pub rests_matrix : (s : SortId) (ss : List SortId) (rows : List (List Tree)) →
      IsMatrix sig rows (s ∷ ss) blank → IsMatrix sig (rests rows) ss blank
  rests_matrix s ss rows m = record {
    declared = m.declared;
    range = m.range.1;
    patterns = rests_sorts sig s ss rows m.patterns;
    variable = m.variable;
  }
