-- What it is for a Jack program to be well named (book, chapters 9 to 11): fourteen kinds of faults, each by itself, over the abstract syntax. A
-- program is the classes of a folder, in the order of their files' names, and those of the operating system. Types are not looked up where they
-- are declared, and are not checked. That the search of the code finds just these, the first of them first, is the law of names.
use Rattle.std.specs.Prelude.{◌≡◌, ◌<◌, ℕ, suc, Bool, true, false, List, [], ◌++◌, map, Option, Some, None, length, codes, slice_get}
use Rattle.scan_text.specs.Text.{nowhere}
use Rattle.scan_text.specs.declared.Place.{Place}
use Rattle.jack_tree.specs.Syntax as tree
use Rattle.jack_names.specs.Faults.{NameDiagnostic, Source, diagnostic_in}
use Rattle.jack_names.specs.Using.{find_named, Variable, members, inner, Made, made_calls, Use, OfVariable, OfFront, OfCall, OfThis, Body, File, source, files, classes}
use Rattle.jack_names.specs.declared.fault.NameKind.{NameKind}
use Rattle.jack_names.specs.declared.fault.NameKind.TheVariants as kinds
use Rattle.jack_names.specs.declared.scope.Way.{Way}
use Rattle.jack_names.specs.declared.scope.Way.TheVariants as way

-- a name that stands in a list, and stands there before
pub record IsTwice (xs : List tree.Name) (j : ℕ) (x : tree.Name) : Type 0 where
  pub here : slice_get xs j ≡ Some x
  pub before : (k : ℕ) × (y : tree.Name) × (k < j) × (slice_get xs k ≡ Some y) × (y.text ≡ x.text)

abbrev pub names : List Variable → List tree.Name
names vs = map (λ v. v.name) vs

-- A class has parts in the order of its text: 0 is its name, 1 its fields and statics, and then come its subroutines, each with its name first.
pub data IsMemberTwice (c : tree.Class) : ℕ → ℕ → tree.Name → Type 0 where
  OfVariables : {j : ℕ} {x : tree.Name} → IsTwice (names (members c.variables)) j x → IsMemberTwice c 1 j x
  OfSubroutines : {n : ℕ} {x : tree.Name} → IsTwice (map (λ s. s.name) c.subroutines) n x → IsMemberTwice c (suc (suc n)) 0 x

-- the variable of a name: a parameter or local, or else a field or static
abbrev pub variable_of : Body → tree.Name → Option Variable
variable_of b x = find_named (λ v. v.name.text) x.text b.variables

-- a variable that a use names
pub data Names : Use → tree.Name → Type 0 where
  Alone : {x : tree.Name} → Names (OfVariable x) x
  BeforeDot : {x : tree.Name} → Names (OfFront x) x

-- how a call is made, and the subroutines of the class that it goes to
pub record Target : Type 0 where
  pub way : Way
  pub subroutines : List tree.Subroutine

abbrev pub through : Way → Option tree.ClassFile → Option Target
through w None = None
through w (Some c) = Some (record { way = w; subroutines = c.class.subroutines })

abbrev pub subroutine_of : Target → tree.Name → Option tree.Subroutine
subroutine_of t f = find_named (λ s. s.name.text) f.text t.subroutines

abbrev pub made_name : List ℕ → Made → tree.Name
made_name text m = record { text = text; place = m.place }

module _ (own os : List tree.ClassFile) where
  -- A class that is already there when the class of this number in the folder (false) or in the operating system (true) comes: the operating
  -- system's classes are there first.
  pub data IsThere : Bool → ℕ → tree.ClassFile → Type 0 where
    Shipped : (k : ℕ) {i : ℕ} {d : tree.ClassFile} → slice_get os k ≡ Some d → IsThere false i d
    Earlier : (k : ℕ) {shipped : Bool} {i : ℕ} {d : tree.ClassFile} → k < i → slice_get (classes own os shipped) k ≡ Some d → IsThere shipped i d

  -- What is wrong with what a class declares: the part, the number in this part, the kind and the name.
  pub data Misdeclared (shipped : Bool) (i : ℕ) (c : tree.ClassFile) : ℕ → ℕ → NameKind → tree.Name → Type 0 where
    -- 1: the class is not named as its file, without the ending
    FileName : (c.class.name.text ++ codes ".jack" ≡ c.file → ⊥) → Misdeclared shipped i c 0 0 kinds.FileName c.class.name
    -- 2: a class of this name is already there
    ClassTwice : {d : tree.ClassFile} → IsThere shipped i d → d.class.name.text ≡ c.class.name.text → Misdeclared shipped i c 0 0 kinds.ClassTwice c.class.name
    -- 3: two fields or statics, or two subroutines, of the class have this name
    MemberTwice : {part j : ℕ} {x : tree.Name} → IsMemberTwice c.class part j x → Misdeclared shipped i c part j kinds.MemberTwice x
    -- 4: two parameters or locals of one subroutine have this name
    VariableTwice : {n j : ℕ} {s : tree.Subroutine} {x : tree.Name} → slice_get c.class.subroutines n ≡ Some s → IsTwice (names (inner s)) j x → Misdeclared shipped i c (suc (suc n)) (suc j) kinds.VariableTwice x

  -- the class of a name, and of a type
  abbrev pub class_of : List ℕ → Option tree.ClassFile
  class_of x = find_named (λ c. c.class.name.text) x (own ++ os)

  abbrev pub type_class : tree.ValueType → Option tree.ClassFile
  type_class (tree.Object n) = class_of n.text
  type_class _ = None

  -- Where a call goes: through a variable, to the class that is its type; else through a class;
  abbrev pub front_target : Option Variable → tree.Name → Option Target
  front_target None x = through way.ByClass (class_of x.text)
  front_target (Some v) x = through way.ByObject (type_class v.type)

  -- with nothing before the name, to the class in which it stands.
  abbrev pub target : Body → Option tree.Name → Option Target
  target b None = Some (record { way = way.Own; subroutines = b.siblings })
  target b (Some x) = front_target (variable_of b x) x

  -- The calls that are made at a use, of which there may be more than one. Each has a number, where it goes, its subroutine's name and how many
  -- arguments it has.
  pub data Calls (b : Body) : Use → ℕ → Target → tree.Name → ℕ → Type 0 where
    Written : {o : Option tree.Name} {f : tree.Name} {n : ℕ} {t : Target} → target b o ≡ Some t → Calls b (OfCall o f n) 0 t f n
    ByItself : {u : Use} {k : ℕ} {m : Made} {t : Target} → slice_get (made_calls u) k ≡ Some m → through m.way (class_of m.class) ≡ Some t → Calls b u k t (made_name m.name m) m.arguments

  -- a name by which a call goes to no class: of a front, or of a call that is made by itself
  pub data LeadsNowhere (b : Body) : Use → ℕ → tree.Name → Type 0 where
    Front : {x : tree.Name} → target b (Some x) ≡ None → LeadsNowhere b (OfFront x) 0 x
    Lacking : {u : Use} {k : ℕ} {m : Made} → slice_get (made_calls u) k ≡ Some m → class_of m.class ≡ None → LeadsNowhere b u k (made_name m.class m)

  -- What is wrong with a use in a body: the number of the call, the kind and the name.
  pub data Misused (b : Body) : Use → ℕ → NameKind → tree.Name → Type 0 where
    -- 5: a variable that is no local, parameter, field or static
    UnknownVariable : {x : tree.Name} → variable_of b x ≡ None → Misused b (OfVariable x) 0 kinds.UnknownVariable x
    -- 6: a call through what is neither variable nor class, or through a variable whose type is no class
    UnknownClass : {u : Use} {k : ℕ} {x : tree.Name} → LeadsNowhere b u k x → Misused b u k kinds.UnknownClass x
    -- 7: the class has no subroutine of this name
    UnknownSubroutine : {u : Use} {k n : ℕ} {t : Target} {f : tree.Name} → Calls b u k t f n → subroutine_of t f ≡ None → Misused b u k kinds.UnknownSubroutine f
    -- 8: the number of arguments differs from the number of parameters
    ArgumentCount : {u : Use} {k n : ℕ} {t : Target} {f : tree.Name} {s : tree.Subroutine} → Calls b u k t f n → subroutine_of t f ≡ Some s → (n ≡ length s.parameters → ⊥) → Misused b u k kinds.ArgumentCount f
    -- 9: a method is called through a class name
    MethodByClass : {u : Use} {k n : ℕ} {t : Target} {f : tree.Name} {s : tree.Subroutine} → Calls b u k t f n → subroutine_of t f ≡ Some s → s.form ≡ tree.Method → t.way ≡ way.ByClass → Misused b u k kinds.MethodByClass f
    -- 10: a function or constructor is called through a variable or without a class
    FunctionByObject : {u : Use} {k n : ℕ} {t : Target} {f : tree.Name} {s : tree.Subroutine} → Calls b u k t f n → subroutine_of t f ≡ Some s → (s.form ≡ tree.Method → ⊥) → (t.way ≡ way.ByClass → ⊥) → Misused b u k kinds.FunctionByObject f
    -- 11: `this` in a function
    ThisInFunction : {at : Place} → b.form ≡ tree.Function → Misused b (OfThis at) 0 kinds.ThisInFunction (record { text = codes "this"; place = at })
    -- 12: a field in a function
    FieldInFunction : {u : Use} {x : tree.Name} {v : Variable} → Names u x → variable_of b x ≡ Some v → v.is_field ≡ true → b.form ≡ tree.Function → Misused b u 0 kinds.FieldInFunction x
    -- 13: a call without class or variable in a function
    OwnInFunction : {f : tree.Name} {n : ℕ} → b.form ≡ tree.Function → Misused b (OfCall None f n) 0 kinds.OwnInFunction f

  -- There is a function Main.main without parameters.
  pub record HasMain : Type 0 where
    pub class : tree.ClassFile
    pub main : tree.Subroutine
    pub class_is : class_of (codes "Main") ≡ Some class
    pub main_is : find_named (λ s. s.name.text) (codes "main") class.class.subroutines ≡ Some main
    pub form : main.form ≡ tree.Function
    pub parameters : main.parameters ≡ []

-- Where a fault is: in the folder or in the operating system. It has the number of the file, that of its part, and that of the name in the part, in
-- the order of the text. It has that of the call, where more than one is made at this name. What a class declares has the parts above; what it uses
-- has one part for each subroutine.
pub record Spot : Type 0 where
  pub shipped : Bool
  pub file : ℕ
  pub part : ℕ
  pub name : ℕ
  pub call : ℕ

abbrev pub spot : Bool → ℕ → ℕ → ℕ → ℕ → Spot
spot shipped i part j k = record { shipped = shipped; file = i; part = part; name = j; call = k }

-- a use, by the number of its file, that of the subroutine in the file, and its own in the subroutine
pub record IsUsed (own os : List tree.ClassFile) (shipped : Bool) (i part j : ℕ) (f : File) (b : Body) (u : Use) : Type 0 where
  pub file : slice_get (files own os shipped) i ≡ Some f
  pub body : slice_get f.bodies part ≡ Some b
  pub name : slice_get b.uses j ≡ Some u

abbrev pub told_at : Source → NameKind → tree.Name → NameDiagnostic
told_at source kind x = diagnostic_in source x.text x.place kind

-- what is reported where Main.main is not there
abbrev pub no_main : NameDiagnostic
no_main = diagnostic_in (record { shipped = false; file = codes "Main.jack" }) (codes "Main.main") nowhere kinds.NoMain

-- What can be reported of a program, and where: the file, the name, its place and the kind. Kinds 1 to 4 are in declarations, and 5 to 13 in
-- uses.
pub data Fails (own os : List tree.ClassFile) : Spot → NameDiagnostic → Type 0 where
  InDeclaration : {shipped : Bool} {i part j : ℕ} {c : tree.ClassFile} {kind : NameKind} {x : tree.Name} → slice_get (classes own os shipped) i ≡ Some c
      → Misdeclared own os shipped i c part j kind x → Fails own os (spot shipped i part j 0) (told_at (source shipped c) kind x)
  -- 14: Main.main is not there, or is no function without parameters
  NoMain : (HasMain own os → ⊥) → Fails own os (spot false 0 0 0 0) no_main
  InUse : {shipped : Bool} {i part j k : ℕ} {f : File} {b : Body} {u : Use} {kind : NameKind} {x : tree.Name} → IsUsed own os shipped i part j f b u
      → Misused own os b u k kind x → Fails own os (spot shipped i part j k) (told_at f.source kind x)

-- Nothing is reported.
abbrev pub IsWellNamed : List tree.ClassFile → List tree.ClassFile → Type 0
IsWellNamed own os = (at : Spot) (told : NameDiagnostic) → Fails own os at told → ⊥
