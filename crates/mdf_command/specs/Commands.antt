-- What a command was asked for with.
use Rattle.mdf_command.specs.Words.{Request, shown, made, joined, recorded}
use Rattle.mdf_command.specs.declared.command.Command.{Command}
use Rattle.mdf_command.specs.declared.command.Command.TheVariants.{Show, Make, Join, Record}

abbrev pub request_of : Command → Request
request_of (Show input aspect) = shown input.now aspect
request_of (Make input output product) = made input.now output.now product
request_of (Join input second output union) = joined input.now second.now output.now union
request_of (Record output origin) = recorded output.now origin
