-- A value that each declared signature has.
use Rattle.std.proofs.Common.{◌≡◌, ℕ, ◌<◌, List, [], Some, true, refl, ap, sym, ◌∙◌, subst, codes, arith, lit<, lit≤}
use Rattle.std.specs.Prelude.{◌==◌, ◌||◌, IsTrue, slice_get}
use Rattle.std.specs.Char.{is_ascii_alphanumeric}
use Rattle.std.specs.Str.{IsAscii}
use Rattle.std.proofs.lemmas.Str.{chars-IsAscii, IsUtf8-from_ascii}
use Rattle.std.proofs.lemmas.Str.Ascii.{IsAscii-nil, IsAscii-cons}
use Rattle.term_core.specs.Tree.{app, none}
use Rattle.spec_core.specs.Sig.{Sig}
use Rattle.spec_core.specs.Declarations.{IsDeclared, bool_symbol}
use Rattle.spec_text.specs.Names.{IsName}
use Rattle.unicode_ident.specs.Ident.{is_xid_continue}
use Rattle.unicode_ident.proofs.IdentLemmas.{is_xid_start-ascii, is_xid_continue-ascii}
use Rattle.proof_script.specs.Names.{IsReportName}
use Rattle.proof_script.specs.Reports.{ValueStands}
use Rattle.proof_script.specs.Standing.{TermStands}
use Rattle.proof_script.proofs.Spelled.{report_name}

ascii : IsAscii (codes "true")
ascii = IsAscii-cons 116 (codes "rue") (lit< tt)
    (IsAscii-cons 114 (codes "ue") (lit< tt)
    (IsAscii-cons 117 (codes "e") (lit< tt) (IsAscii-cons 101 [] (lit< tt) IsAscii-nil)))

goes_on : (c : ℕ) → c < 128 → (is_ascii_alphanumeric c || (c == 95)) ≡ true → IsTrue (is_xid_continue c)
goes_on c h e = is_xid_continue-ascii c h ∙ e

spelled : IsName (codes "true")
spelled = (
  rw (is_xid_start-ascii 116 (lit< tt)) refl,
  (goes_on 114 (lit< tt) refl, (goes_on 117 (lit< tt) refl, (goes_on 101 (lit< tt) refl, tt))),
)

true_name : IsReportName (codes "true")
true_name = report_name (codes "true") (lit≤ tt) refl (
  IsUtf8-from_ascii (codes "true") ascii,
  subst (λ (cs : List ℕ). IsName cs) (sym (chars-IsAscii (codes "true") ascii)) spelled,
)

module _ (sig : Sig) (d : IsDeclared sig) where
  true_at : slice_get sig.table 0 ≡ Some (codes "true", bool_symbol)
  true_at = ap (λ (s : Sig). slice_get s.table 0) d.is

  true_stands : TermStands sig (app 0 none)
  true_stands = record { symbols = ((codes "true", bool_symbol, true_at, refl, true_name), tt); depth = omega arith }

  pub true_value : (name : List ℕ) → IsReportName name → ValueStands sig (name, app 0 none)
  true_value name h = record {
    name = h;
    stands = true_stands;
    closed = (omega (arith, ap (λ (s : Sig). s.constructors) d.is), tt);
  }
