use Rattle.std.proofs.Common.{rules}
use Rattle.dbus_explain.proofs.Searching.{long_only}
use Rattle.dbus_explain.proofs.search.Search.text.Goals as goal

pub returns-in-115-clause-none : goal.returns-in-115-clause-none
returns-in-115-clause-none c = λ none t is start stated h.
    c.long_text.ensures.none none start stated (long_only c.args.self.now.bytes.now c.args.self.now.at c.args.spot.place start stated t c.args.spot.types.now is (search rules) h)
