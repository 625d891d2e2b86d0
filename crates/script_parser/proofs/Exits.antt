use Rattle.grammar.proofs.Exits.{exits}
use Rattle.script_parser.proofs.Acts.{load_read, load_halts, output_file_read, output_file_halts, compare_to_read, compare_to_halts, output_list_read, output_list_halts, setting_read, setting_halts, echo_read, echo_halts, load_rom_read, load_rom_halts}

pub ruleset script_exits = (exits)

pub ruleset act_exits = (exits, load_read, load_halts, output_file_read, output_file_halts, compare_to_read, compare_to_halts, output_list_read, output_list_halts, setting_read, setting_halts, echo_read, echo_halts, load_rom_read, load_rom_halts)
