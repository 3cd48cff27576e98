use Rattle.std.proofs.Common.{◌≡◌, refl, sym, ◌∙◌, rules}
use Rattle.std.specs.List.{count_by}
use Rattle.std.proofs.lemmas.List.Recursion.{is_count_by}
use Rattle.coverage_check.specs.Columns.{symbols_at, has_symbol_at}
use Rattle.coverage_check.proofs.columns.symbols_at.Goals as goal

pub returns : goal.returns
returns c =
    let counted : c.count.result ≡ count_by (has_symbol_at c.args.column) c.args.rows.now = search rules in
    counted ∙ sym (is_count_by (symbols_at c.args.column) (has_symbol_at c.args.column) refl (λ _ _. refl)
    c.args.rows.now)
