-- A Jack class and a key script are read from a text in one way.
use Rattle.std.proofs.Common.{◌≡◌, ℕ, List, sym, ◌∙◌, ap}
use Rattle.grammar.specs.declared.Fault.{Fault}
use Rattle.grammar.specs.Faults.{diagnostic_of}
use Rattle.grammar.specs.Texts.{OneReading}
use Rattle.outer_world.specs.Refusals.{Message}
use Rattle.jack_tree.specs.Syntax.{ClassFile}
use Rattle.jack_parser.specs.Spelled.{ClassLaw, SpellsClass}
use Rattle.jack_parser.specs.Spells.{Refuses as RefusesTree}
use Rattle.key_script.specs.Faults.{key_message}
use Rattle.key_script.specs.Grammar.{ReadingLaw as KeyLaw, Spells as SpellsLines}
use Rattle.key_script.specs.declared.lines.Line.{Line}
use Rattle.source_files.proofs.Once.{ReadsOnce}
use Rattle.jack_parser.specs.Language.{RefusesClass, SpellsFile}
use Rattle.key_script.specs.Language.{RefusesKeys}
use Rattle.source_files.specs.Faults.{TellsFault}

-- ---- a first fault reports one thing

pub one_told : {X : Type 0} (spells : X → Type 0) (refuses : List ℕ → Fault → Type 0) (text : List ℕ) (s t : Message) → OneReading X spells (refuses text) → TellsFault refuses text s → TellsFault refuses text t → s ≡ t
one_told spells refuses text s t once (f, h, e) (g, k, d) = e ∙ ap diagnostic_of (once.one_fault f g h k) ∙ sym d

-- ---- classes

pub class_once : ClassLaw → ReadsOnce SpellsFile RefusesClass (λ (c : ClassFile). c)
class_once law = record {
  one = λ name text a b h k. let class : a.class ≡ b.class = (law text).one a.class b.class h.0 k.0 in let file : a.file ≡ b.file = h.1 ∙ sym k.1 in λ i. record { file = file i; class = class i };
  one_told = λ text s t h k. one_told (SpellsClass text) RefusesTree text s t (law text) h k;
  not_both = λ name text a t h k. (law text).not_both a.class k.0 h.0 k.1;
}

-- ---- key scripts

pub keys_once : KeyLaw → ReadsOnce (λ (name text : List ℕ) (keys : List Line). SpellsLines text keys) RefusesKeys (λ (keys : List Line). keys)
keys_once law = record {
  one = λ name text a b h k. (law text).one a b h k;
  one_told = λ text s t h k. h.2 ∙ ap key_message ((law text).one_fault h.0 k.0 h.1 k.1) ∙ sym k.2;
  not_both = λ name text a t h k. (law text).not_both a k.0 h k.1;
}
