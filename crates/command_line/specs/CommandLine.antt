-- The program's command line, as `clap` reads it.
use Rattle.std.specs.Prelude.{◌≡◌, ℕ, true, false, codes, Some}
use Rattle.clap.specs.Words.{App, Rule, Text, app_of, new_app, new_rule, rule_of, with_rule, with_subcommand}
use Rattle.clap.specs.declared.builder.ArgAction.TheVariants.{Append, Set, SetTrue}
use Rattle.clap.specs.declared.builder.arg.Arg.{Arg}
use Rattle.clap.specs.declared.builder.command.Command.{Command}
use Rattle.clap.specs.declared.builder.command.Command.TheViews.{out-Command}

-- a file that has to be named, by its place
abbrev pub required_file : Text → Rule
required_file id = record (new_rule id) { required = true; action = Some Set }

-- an option --NAME VALUE, whose value has a name in the help
abbrev pub option : Text → Rule
option id = record (new_rule id) { long = Some id; action = Some Set; value_names = 1 }

-- the same, where it has to be given
abbrev pub required_option : Text → Rule
required_option id = record (new_rule id) { long = Some id; required = true; action = Some Set; value_names = 1 }

-- a flag --NAME
abbrev pub flag : Text → Rule
flag id = record (new_rule id) { long = Some id; action = Some SetTrue }

-- the same, with a second name -L, where L is the letter of this number
abbrev pub short_flag : Text → ℕ → Rule
short_flag id letter = record (flag id) { short = Some letter }

-- the same command, with an optional --explain
abbrev pub with_explain : App → App
with_explain line = with_rule line (flag (codes "explain"))

-- the same command, with an optional --form FORM and --within MOST
abbrev pub with_form : App → App
with_form line = with_rule (with_rule line (option (codes "form"))) (option (codes "within"))

-- a command over one file
abbrev pub one_file_line : Text → App
one_file_line name = with_rule (new_app name) (required_file (codes "FILE"))

-- canon FILE, with an optional --form FORM, --within MOST and --explain
abbrev pub canon_line : App
canon_line = with_explain (with_form (one_file_line (codes "canon")))

-- convert FILE --to FORMAT, with an optional --explain
abbrev pub convert_line : App
convert_line = with_explain (with_rule (one_file_line (codes "convert")) (required_option (codes "to")))

-- a command over two files
abbrev pub two_files_line : Text → App
two_files_line name = with_rule (with_rule (new_app name) (required_file (codes "A"))) (required_file (codes "B"))

-- same A B, with an optional --form FORM, --within MOST and --explain
abbrev pub same_line : App
same_line = with_explain (with_form (two_files_line (codes "same")))

-- show FILE, with an optional --period MOST and --explain
abbrev pub show_line : App
show_line = with_explain (with_rule (one_file_line (codes "show")) (option (codes "period")))

-- step FILE, with an optional --table RULE, --generations N and --explain
abbrev pub step_line : App
step_line = with_explain (with_rule (with_rule (one_file_line (codes "step")) (option (codes "table"))) (option (codes "generations")))

-- files by their places, any number of them
abbrev pub files_rule : Rule
files_rule = record (new_rule (codes "FILE")) { action = Some Append }

-- a command over any number of files, with an optional --form FORM, --within MOST, --ignore-generation, --zero, --from LIST and --recursive, which is -r
-- too: `r` is the character 114
abbrev pub files_line : Text → App
files_line name =
    let in_a_form = with_form (with_rule (new_app name) files_rule) in
    let hashed = with_rule in_a_form (flag (codes "ignore-generation")) in
    let with_list = with_rule (with_rule hashed (flag (codes "zero"))) (option (codes "from")) in
    with_rule with_list (short_flag (codes "recursive") 114)

-- keys FILE.., with these and an optional --json and --stream STREAM
abbrev pub keys_line : App
keys_line = with_rule (with_rule (files_line (codes "keys")) (flag (codes "json"))) (option (codes "stream"))

-- the program without its commands, of which it wants one; it has a version
abbrev pub named_program : App
named_program =
    let bare = new_app (codes "golly_canon") in
    record bare { top = record bare.top { subcommand_required = true; has_version = true } }

-- the program
abbrev pub program : App
program =
    with_subcommand (with_subcommand (with_subcommand (with_subcommand (with_subcommand (with_subcommand (with_subcommand named_program
    canon_line.top)
    convert_line.top)
    same_line.top)
    show_line.top)
    step_line.top)
    keys_line.top)
    (files_line (codes "duplicates")).top

-- the argument has this rule, and isn't global
pub record HasRule (rule : Rule) (argument : Arg) : Type 0 where
  pub rule_is : rule_of argument ≡ rule
  pub local : argument.global ≡ false

-- the command is read as this one, and none of its arguments is global
pub record ReadsAs (line : App) (command : Command) : Type 0 where
  pub app : app_of command ≡ line
  pub local : (out-Command command).has_globals ≡ false
