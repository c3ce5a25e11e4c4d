use Rattle.std.proofs.Common.{sym, ap, subst, ◌∙◌}
use Rattle.console.specs.Commands.{command_read, Sized}
use Rattle.console.proofs.Sizes.{read_sized}
use Rattle.console.proofs.given.Given.reply.Goals as goal

pub obey-requires : goal.obey-requires
obey-requires c =
    subst Sized (sym c.in_ok-read_line.ensures ∙ ap command_read c.in_ok-line.was) (read_sized c.args.text.now)
