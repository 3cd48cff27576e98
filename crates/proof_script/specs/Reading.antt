-- What the readers of words find.
use Rattle.std.specs.Prelude.{Bool, ◌≡◌, ◌≤◌, ◌+◌, ◌++◌, ℕ, List, [], ◌∷◌, Some, codes, length, map, slice_get}
use Rattle.std.specs.List.{AllByRecursion, range_with_len}
use Rattle.std.specs.Fmt.{decimal}
use Rattle.term_core.specs.Tree.{Tree, Trees, none, some, list_of, tree_depth, depths}
use Rattle.term_core.specs.Variables.{occurrences, occurrences_all}
use Rattle.spec_core.specs.Sig.{Sig, names_of}
use Rattle.proof_script.specs.Names.{IsReportName}
use Rattle.proof_script.specs.Standing.{IsShort, Between, SymbolsStand, AllSymbolsStand}
use Rattle.proof_script.specs.Words.{equation_text, in_brackets, with_commas}
use Rattle.proof_script.specs.Written.{text_by, others_by}
use Rattle.proof_script.specs.Delimiters.{AllRun, Run, Stops, Ends}
use Rattle.proof_script.specs.declared.words.Variables.{Variables}
use Rattle.proof_script.specs.declared.words.Variables.TheVariants.{Numbered, Blank}

-- the bytes are the text of this number, which has at most nine digits
pub record IsNumber (bytes : List ℕ) (n : ℕ) : Type 0 where
  pub short : IsShort n
  pub is : decimal n ≡ bytes

-- the bytes are the text of the number of an equation
pub record IsIndex (bytes : List ℕ) (n : ℕ) : Type 0 where
  pub between : Between 1 9999 n
  pub is : decimal n ≡ bytes

-- the word is this conclusion (true) or premise
pub record IsEquation (word : List ℕ) (conclusion : Bool) (n : ℕ) : Type 0 where
  pub between : Between 1 9999 n
  pub is : word ≡ equation_text conclusion n

-- the bytes up to the first one that ends a word, and the others
pub record IsFirstWord (bytes word rest : List ℕ) : Type 0 where
  pub is : bytes ≡ word ++ rest
  pub run : AllRun word
  pub stops : Stops Run rest

-- the numbers of the variables that are read after k of them: in a pattern they go on from k
abbrev pub CountFrom : Variables → ℕ → List ℕ → Type 0
CountFrom Numbered k ns = Unit {0}
CountFrom Blank k ns = ns ≡ range_with_len k (length ns)

-- how many variables of a pattern are read with these
abbrev pub count_after : Variables → ℕ → List ℕ → ℕ
count_after Numbered k ns = k
count_after Blank k ns = k + length ns

-- the text of a variable
abbrev pub mark : Variables → ℕ → List ℕ
mark Numbered n = codes "?" ++ decimal n
mark Blank n = codes "_"

-- the word is the variable that may come after k of them
pub record IsVariable (variables : Variables) (k : ℕ) (word : List ℕ) (n : ℕ) : Type 0 where
  pub short : IsShort n
  pub is : word ≡ mark variables n
  pub counted : CountFrom variables k (n ∷ [])

-- the word is the name of this symbol, which may appear
pub record IsSymbol (sig : Sig) (word : List ℕ) (f : ℕ) : Type 0 where
  pub at : slice_get (names_of sig) f ≡ Some word
  pub name : IsReportName word

module _ (sig : Sig) (variables : Variables) where
  -- the text of the arguments of a symbol
  abbrev pub arguments_by : Trees → List ℕ
  arguments_by none = []
  arguments_by (some t ts) =
      codes "(" ++ (text_by sig variables t ++ (others_by sig variables ts ++ codes ")"))

  -- a term that may appear at this depth, after k variables
  pub record IsReadable (room k : ℕ) (t : Tree) : Type 0 where
    pub symbols : SymbolsStand sig t
    pub depth : tree_depth t ≤ room
    pub counted : CountFrom variables k (occurrences t)

  -- the bytes are its text and what follows
  pub record IsTermAt (room k : ℕ) (bytes : List ℕ) (t : Tree) (rest : List ℕ) : Type 0 where
    pub readable : IsReadable room k t
    pub is : bytes ≡ text_by sig variables t ++ rest
    pub ends : Ends rest

  -- this many terms that may appear
  pub record AreReadable (room k count : ℕ) (ts : Trees) : Type 0 where
    pub symbols : AllSymbolsStand sig ts
    pub depth : depths ts ≤ room
    pub counted : CountFrom variables k (occurrences_all ts)
    pub many : length (list_of ts) ≡ count

  -- the bytes are their texts, each after `, `, and what follows
  pub record AreOthersAt (room k count : ℕ) (bytes : List ℕ) (ts : Trees) (rest : List ℕ)
      : Type 0 where
    pub readable : AreReadable room k count ts
    pub is : bytes ≡ others_by sig variables ts ++ rest
    pub ends : Ends rest

  -- the bytes are the text of arguments and what follows
  pub record AreArgumentsAt (room k count : ℕ) (bytes : List ℕ) (ts : Trees) (rest : List ℕ)
      : Type 0 where
    pub readable : AreReadable room k count ts
    pub is : bytes ≡ arguments_by ts ++ rest

  -- the bytes are the text of these terms in brackets and what follows
  pub record IsListAt (bytes : List ℕ) (ts : List Tree) (rest : List ℕ) : Type 0 where
    pub items : AllByRecursion (IsReadable 100 0) ts
    pub is : bytes ≡ in_brackets (with_commas (map (text_by sig variables) ts)) ++ rest
