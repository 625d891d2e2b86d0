-- What loading says where nothing is loaded.
use Rattle.std.proofs.Common.{◌≡◌, ◌<◌, ℕ, List, Option, Some, None, Err, length, refl, sym, subst}
use Rattle.grammar.specs.Reading.{Halt, memory, fault}
use Rattle.grammar.specs.declared.Fault.{Fault}
use Rattle.grammar.specs.declared.ReadError.{ReadError}
use Rattle.outer_world.specs.Files.{Files}
use Rattle.outer_world.specs.Refusals.{Message, message_line}
use Rattle.source_files.specs.Loads.{IsWhy, Loads, Refused, TellsOf, text_error}
use Rattle.source_files.specs.Faults.{TellsFault, read_error}
use Rattle.source_files.specs.Sources.{IsFaulty, IsPastLimit, past_limit}
use Rattle.source_files.specs.declared.error.LoadError.{LoadError}
use Rattle.source_files.specs.declared.error.LoadError.TheVariants as errors
use Rattle.source_files.specs.declared.error.TextError.{TextError}

-- a refusal that reports this
pub told : {A : Type 0} (good : A → Type 0) (refused : List ℕ → Type 0) (missed : Type 0) (path : List ℕ) (t : Message) (e : LoadError) → refused (message_line path t) → Refused path t e → Loads good refused missed (Err e)
told good refused missed path t (errors.Refused r) h e = subst refused (sym e) h
told good refused missed path t errors.Failed h e = absurd e
told good refused missed path t errors.Memory h e = tt

-- what is reported of a path, or want of memory
pub told_of : {A : Type 0} (good : A → Type 0) (refused : List ℕ → Type 0) (missed : Type 0) (path : List ℕ) (o : Option Message) (e : LoadError) → ((t : Message) → o ≡ Some t → refused (message_line path t)) → TellsOf path o e → Loads good refused missed (Err e)
told_of good refused missed path (Some t) e more h = told good refused missed path t e (more t refl) h
told_of good refused missed path None e more h = rw h tt

-- why a text is not read
pub why_told : (refuses : Message → Type 0) (o : Option Message) (e : TextError) → ((t : Message) → o ≡ Some t → refuses t) → e ≡ text_error o → IsWhy refuses e
why_told refuses (Some t) e more h = rw h (more t refl)
why_told refuses None e more h = rw h tt

-- why a text with a first fault is not read, unless memory is wanting
pub why_refused : (refuses : List ℕ → Fault → Type 0) (text : List ℕ) {error : ReadError} → Halt (refuses text) error → IsWhy (TellsFault refuses text) (read_error error)
why_refused refuses text memory = tt
why_refused refuses text (fault {f = f} h) = (f, h, refl)

-- what is not loaded, since something else is not
pub without : {A B : Type 0} (good : A → Type 0) (refused : List ℕ → Type 0) (missed : Type 0) (good' : B → Type 0) (refused' : List ℕ → Type 0) (missed' : Type 0) (e : LoadError)
    → ((line : List ℕ) → refused line → refused' line) → (missed → missed') → Loads good refused missed (Err e) → Loads good' refused' missed' (Err e)
without good refused missed good' refused' missed' (errors.Refused r) more gone h = more _ h
without good refused missed good' refused' missed' errors.Failed more gone h = gone h
without good refused missed good' refused' missed' errors.Memory more gone h = tt

-- a text past the limit is one with a fault
pub long_faulty : (refuses : List ℕ → Message → Type 0) (files : Option Files) (path line : List ℕ) → ((text : List ℕ) → 1048576 < length text → refuses text past_limit) → IsPastLimit files path line → IsFaulty refuses files path line
long_faulty refuses files path line limited (text, has, long, e) = (text, past_limit, has, limited text long, e)
