use Rattle.std.proofs.Common.{◌≡◌, ℕ, List, Some, false, true, length, take, refl, subst, sym, ◌∙◌, arith}
use Rattle.std.specs.Prelude.{slice_get}
use Rattle.std.proofs.lemmas.List.{take_all}
use Rattle.std.proofs.lemmas.Option.{slice_get_read}
use Rattle.node_names.specs.Names.{AreDifferent, AreNoSymbols, IsFree}
use Rattle.node_names.proofs.NameLists.{different_more, free_before, no_symbols_more}
use Rattle.node_names.proofs.goals.can_be_names.Goals as goal

pub returns-then-not-is_free : goal.returns-then-not-is_free
returns-then-not-is_free c =
    let sig = c.args.sig.now in
    let names = c.args.names.now in
    let place = c.loop-place.place in
    let name = c.index-names-place.result in
    let at : slice_get names place ≡ Some name =
    slice_get_read names (length names) place name refl c.loop-place-test.true c.index-names-place.is in (
      λ yes. absurd (let q : false ≡ true = yes in cc),
      λ both.
          sym c.if-not-is_free.true
          ∙ c.is_free.ensures.1 (subst (λ (n : List ℕ). IsFree sig (take place names) n) (sym c.as_bytes.ensures)
          (free_before sig names place name at both.0 both.1)),
    )

pub loop-place-preserved : goal.loop-place-preserved
loop-place-preserved c =
    let sig = c.args.sig.now in
    let names = c.args.names.now in
    let place = c.loop-place.place in
    let name = c.index-names-place.result in
    let at : slice_get names place ≡ Some name =
    slice_get_read names (length names) place name refl c.loop-place-test.true c.index-names-place.is in
    let free : IsFree sig (take place names) name =
    subst (λ (n : List ℕ). IsFree sig (take place names) n) c.as_bytes.ensures
    (c.is_free.ensures.0 c.if-not-is_free.false) in
    record {
      different = different_more sig names place name at c.loop-place.invariant.different free;
      no_symbols = no_symbols_more sig names place name at c.loop-place.invariant.no_symbols free;
    }

pub returns : goal.returns
returns c =
    let sig = c.args.sig.now in
    let names = c.args.names.now in
    let all : take c.loop-place.place names ≡ names =
    take_all c.loop-place.place names (omega arith) in (
      λ yes. (
        subst (λ (ns : List (List ℕ)). AreDifferent ns) all c.loop-place.invariant.different,
        subst (λ (ns : List (List ℕ)). AreNoSymbols sig ns) all c.loop-place.invariant.no_symbols,
      ),
      λ both. refl,
    )
