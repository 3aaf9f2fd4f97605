-- How a command line grows.
use Rattle.std.proofs.Common.{ap, ap₂, ◌∙◌, refl}
use Rattle.clap.specs.Words.{AddsArg, AddsSubcommand, App, Rule, with_rule, with_subcommand}
use Rattle.clap.specs.declared.builder.arg.Arg.{Arg}
use Rattle.clap.specs.declared.builder.command.Command.{Command}
use Rattle.command_line.specs.CommandLine.{HasRule, ReadsAs}

-- a command with one more argument
pub reads-argument : (line : App) (rule : Rule) (old : Command) (a : Arg) (new : Command) → ReadsAs line old → AddsArg old a new → HasRule rule a
    → ReadsAs (with_rule line rule) new
reads-argument line rule old a new reads adds has = record {
  app = adds.shape has.local ∙ ap₂ with_rule reads.app has.rule_is;
  local = adds.globals ∙ rw (reads.local, has.local) refl;
}

-- a command with one more subcommand
pub reads-subcommand : (line sub_line : App) (old sub new : Command) → ReadsAs line old → AddsSubcommand old sub new → ReadsAs sub_line sub
    → ReadsAs (with_subcommand line sub_line.top) new
reads-subcommand line sub_line old sub new reads adds below = record {
  app = adds.shape below.local ∙ ap₂ with_subcommand reads.app (ap (λ (a : App). a.top) below.app);
  local = adds.globals ∙ rw (reads.local, below.local) refl;
}
