-- The hashes of links, and the numbers of the entries before them.
use Rattle.std.specs.Prelude.{ℕ, List, map}
use Rattle.bank_core.specs.declared.links.Link.{Link}

abbrev pub hashes_of : List Link → List ℕ
hashes_of links = map (λ (l : Link). l.hash) links

abbrev pub befores_of : List Link → List ℕ
befores_of links = map (λ (l : Link). l.before) links
