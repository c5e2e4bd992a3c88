-- A binding in one number. Assumes nothing.
use Rattle.std.proofs.Common.{◌<◌, refl, rules}
use Rattle.rules.specs.Sizes.{WORD}
use Rattle.scopes.proofs.Bindings.{pack-is}
use Rattle.scopes.proofs.names.packed.Goals as goal

pub returns : goal.returns
returns c =
    let name-word : c.args.name < WORD = search rules in
    let address_word : c.args.address.0 < WORD = search rules in
    let handle-word : c.args.handle.0 < WORD = search rules in
    rw (c.from.ensures, c.from-2.ensures, c.from-3.ensures) (pack-is c.args.i c.args.name c.args.address.0 c.args.handle.0 _ name-word address_word handle-word refl)
