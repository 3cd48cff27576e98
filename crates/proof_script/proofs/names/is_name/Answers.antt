use Rattle.std.proofs.Common.{◌≡◌, ℕ, ◌<◌, List, eq-eqb, length, sym, ◌∙◌, subst, ap, arith}
use Rattle.std.proofs.lemmas.Bool.{eqb-true}
use Rattle.std.proofs.lemmas.Str.{IsCharBoundary-start}
use Rattle.std.specs.Str.{chars, IsUtf8}
use Rattle.spec_text.specs.Names.{LongestName, NoName}
use Rattle.proof_script.proofs.Spelled.{no_empty_name, found_name, found_whole}
use Rattle.proof_script.proofs.names.is_name.Goals as goal

pub name_at-requires : goal.name_at-requires
name_at-requires c =
    let same : c.in-Ok.text.now ≡ c.args.bytes.now = c.in-Ok.ensures.cases.0 in
    IsCharBoundary-start c.in-Ok.text.now (subst IsUtf8 (sym same) c.in-Ok.ensures.cases.1)

pub returns-then-not-is_empty : goal.returns-then-not-is_empty
returns-then-not-is_empty c =
    let same : c.in-Ok.text.now ≡ c.args.bytes.now = c.in-Ok.ensures.cases.0 in
    let utf8 = c.in-Ok.ensures.cases.1 in
    let n = c.name_at.result in
    let none : n ≡ 0 → NoName (chars c.args.bytes.now) = subst (λ (bs : List ℕ). n ≡ 0 → NoName (chars bs)) same
    c.name_at.ensures.none in
    let longest : 0 < n → LongestName (chars c.args.bytes.now) n = subst (λ (bs : List ℕ). 0 < n →
    LongestName (chars bs) n) same c.name_at.ensures.longest in
    let long : length c.in-Ok.text.now ≡ length c.args.bytes.now = ap (λ (bs : List ℕ). length bs) same in
    let some : 0 < length c.args.bytes.now = grind (arith, long) in (
      λ t. (utf8, found_name c.args.bytes.now n utf8 some longest (eqb-true n (length c.in-Ok.text.now) t ∙ long)),
      λ h. eq-eqb n (length c.in-Ok.text.now) (found_whole c.args.bytes.now n utf8 none longest h.1 ∙ sym long),
    )

pub returns-else-not-is_empty : goal.returns-else-not-is_empty
returns-else-not-is_empty c =
    let same : c.in-Ok.text.now ≡ c.args.bytes.now = c.in-Ok.ensures.cases.0 in
    let none : length c.args.bytes.now ≡ 0 = grind (arith, ap (λ (bs : List ℕ). length bs) same) in (
      λ t. absurd (grind arith),
      λ h. absurd (no_empty_name c.args.bytes.now h.0 none h.1),
    )
