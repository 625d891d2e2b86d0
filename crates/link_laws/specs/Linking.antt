-- What is wrong with a program that cannot be linked, each fault by itself, and which is reported. (The book, chapters
-- 7 and 8.)
use Rattle.std.specs.Prelude.{◌≡◌, ℕ, suc, ◌+◌, ◌-◌, ◌^◌, ◌<◌, ◌≤◌, ◌⊎◌, ◌↔◌, Bool, true, false, List, Some, Result, Ok, Err, length, min}
use Rattle.vm_tree.specs.declared.command.Line.{Line}
use Rattle.vm_tree.specs.declared.command.Command.TheVariants as command
use Rattle.vm_tree.specs.declared.command.Segment.TheVariants as segment
use Rattle.vm_tree.specs.declared.program.File.{File}
use Rattle.vm_link.specs.declared.fault.LinkFault.{LinkFault}
use Rattle.vm_link.specs.declared.fault.LinkFault.TheVariants.{NoFunction, TwiceDefined, NoLabel, LabelTwice, NoSysInit, TooManyStatics, Memory}
use Rattle.vm_link.specs.declared.linked.Linked.{Linked}
use Rattle.vm_link.specs.Sections.{Section, called_name, target, label, sections}
use Rattle.vm_link.specs.Faults.{sys_init}
use Rattle.vm_link.specs.Reached.{AreKept}
use Rattle.vm_link.specs.Resolved.{linked_of}
use Rattle.vm_link.specs.Links.{Links}
use Rattle.link_laws.specs.First.{Any, NoneIs, IsFirst, IsNamedBefore}

abbrev pub HasFunction : List Section → List ℕ → Type 0
HasFunction ss name = Any (λ (s : Section). s.name ≡ Some name) ss

abbrev pub HasLabel : Section → List ℕ → Type 0
HasLabel s name = Any (λ (x : Line). label x.command ≡ Some name) s.lines

-- ---- each fault by itself

-- a function has the name of one before it
abbrev pub IsDefinedBefore : List Section → Section → Type 0
IsDefinedBefore = IsNamedBefore (λ (s : Section). s.name)

-- a label stands in the section before
abbrev pub IsMarkedBefore : List Line → Line → Type 0
IsMarkedBefore = IsNamedBefore (λ (x : Line). label x.command)

-- a line goes to a label that its section has not
abbrev pub GoesNowhere : Section → List Line → Line → Type 0
GoesNowhere s before x = (name : List ℕ) × (target x.command ≡ Some name) × (HasLabel s name → ⊥)

-- a line calls a function that is not there
abbrev pub CallsNothing : List Section → List Line → Line → Type 0
CallsNothing ss before x = (name : List ℕ) × (called_name x.command ≡ Some name) × (HasFunction ss name → ⊥)

-- some line of the section is such
abbrev pub HasSuch : (Section → List Line → Line → Type 0) → List Section → Section → Type 0
HasSuch P before s = (x : Line) × IsFirst (P s) s.lines x

abbrev pub HasLabelTwice : List Section → Section → Type 0
HasLabelTwice = HasSuch (λ s. IsMarkedBefore)

abbrev pub LacksLabel : List Section → Section → Type 0
LacksLabel = HasSuch GoesNowhere

abbrev pub LacksFunction : List Section → List Section → Section → Type 0
LacksFunction ss = HasSuch (λ s. CallsNothing ss)

-- ---- static words

-- the line names the static of this index
abbrev pub NamesStatic : ℕ → Line → Type 0
NamesStatic i x = (x.command ≡ command.Push segment.Static i) ⊎ (x.command ≡ command.Pop segment.Static i)

-- a section of this file names it
abbrev pub FileNames : List Section → ℕ → ℕ → Type 0
FileNames kept k i = Any (λ (s : Section). (s.file ≡ k) × Any (NamesStatic i) s.lines) kept

-- The file has n static words: each index that it names is less, and the greatest is one less.
pub record HasWords (kept : List Section) (k n : ℕ) : Type 0 where
  pub below : (i : ℕ) → FileNames kept k i → i < n
  pub greatest : (n ≡ 0) ⊎ ((i : ℕ) × (n ≡ suc i) × FileNames kept k i)

-- the first files, this many, have this many static words together
pub data HaveWords (kept : List Section) : ℕ → ℕ → Type 0 where
  no_file : HaveWords kept 0 0
  one_more : {k n m : ℕ} → HaveWords kept k n → HasWords kept k m → HaveWords kept (suc k) (n + m)

-- ---- what is reported

-- Of the text first a function that is twice defined, then a label that stands twice, a label that is not there, and a
-- missing start. Of each kind it is the first in the order of the text.
pub data TextFault (bare : Bool) (ss : List Section) : LinkFault → Type 0 where
  twice_defined : (s : Section) (name : List ℕ) → IsFirst IsDefinedBefore ss s → s.name ≡ Some name → TextFault bare ss (TwiceDefined name)
  label_twice : (s : Section) (x : Line) (name : List ℕ) → NoneIs IsDefinedBefore ss
      → IsFirst HasLabelTwice ss s → IsFirst IsMarkedBefore s.lines x → label x.command ≡ Some name → TextFault bare ss (LabelTwice name)
  no_label : (s : Section) (x : Line) (name : List ℕ) → NoneIs IsDefinedBefore ss → NoneIs HasLabelTwice ss
      → IsFirst LacksLabel ss s → IsFirst (GoesNowhere s) s.lines x → target x.command ≡ Some name → TextFault bare ss (NoLabel name)
  no_start : NoneIs IsDefinedBefore ss → NoneIs HasLabelTwice ss → NoneIs LacksLabel ss
      → bare ≡ false → (HasFunction ss sys_init → ⊥) → TextFault bare ss NoSysInit

-- nothing is wrong with the text
pub record IsFine (bare : Bool) (ss : List Section) : Type 0 where
  pub functions : NoneIs IsDefinedBefore ss
  pub labels : NoneIs HasLabelTwice ss
  pub targets : NoneIs LacksLabel ss
  pub start : (bare ≡ true) ⊎ HasFunction ss sys_init

-- Of what is kept: first a function that is called and not there, and then more than 240 static words.
pub data KeptFault (files : ℕ) (ss kept : List Section) : LinkFault → Type 0 where
  no_function : (s : Section) (x : Line) (name : List ℕ) → IsFirst (LacksFunction ss) kept s → IsFirst (CallsNothing ss) s.lines x
      → called_name x.command ≡ Some name → KeptFault files ss kept (NoFunction name)
  too_many : (n : ℕ) → NoneIs (LacksFunction ss) kept → HaveWords kept files n → 240 < n → KeptFault files ss kept (TooManyStatics (min n (2 ^ 64 - 1)))

pub record IsFineKept (files : ℕ) (ss kept : List Section) : Type 0 where
  pub calls : NoneIs (LacksFunction ss) kept
  pub words : ℕ
  pub count : HaveWords kept files words
  pub few : words ≤ 240

-- ---- the answer

-- A program whose text is fine is linked, if what is kept of it is fine, too.
pub data Linking (bare : Bool) (files : List File) : Result Linked LinkFault → Type 0 where
  memory : Linking bare files (Err Memory)
  faulty : {f : LinkFault} → TextFault bare (sections bare files) f → Linking bare files (Err f)
  kept_faulty : {f : LinkFault} (kept : List Section) → IsFine bare (sections bare files) → AreKept bare (sections bare files) kept
      → KeptFault (length files) (sections bare files) kept f → Linking bare files (Err f)
  whole : {l : Linked} (kept : List Section) → IsFine bare (sections bare files) → AreKept bare (sections bare files) kept
      → IsFineKept (length files) (sections bare files) kept → l ≡ linked_of bare files kept → Linking bare files (Ok l)

-- The law of linking: `link` answers this, and nothing else.
abbrev pub LinkingLaw : Type 0
LinkingLaw = (bare : Bool) (files : List File) (r : Result Linked LinkFault) → Linking bare files r ↔ Links bare files r
