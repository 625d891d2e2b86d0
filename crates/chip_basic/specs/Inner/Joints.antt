-- Connections whose names are borrowed.
use Rattle.hdl_tree.specs.declared.tree.Source.{Source}
use Rattle.hdl_tree.specs.declared.tree.Source.TheVariants.{Net, Constant}
use Rattle.chip_basic.specs.declared.hdl.Origin.{Origin}
use Rattle.chip_basic.specs.declared.hdl.Origin.TheVariants as origin

abbrev pub the_source : Origin → Source
the_source (origin.Net net bits) = Net (record { name = net.now; subscript = bits })
the_source (origin.Constant value) = Constant value
