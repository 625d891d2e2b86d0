-- The files of the code.
use Rattle.jack_names.specs.Faults.{Source}
use Rattle.jack_names.specs.declared.fault.File.{File}

abbrev pub the_file : File → Source
the_file f = record { shipped = f.shipped; file = f.name.now }
