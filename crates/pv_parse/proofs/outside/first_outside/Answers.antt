use Rattle.pv_parse.proofs.RoleLaws.{some-first, none-within}
use Rattle.pv_parse.proofs.outside.first_outside.Goals as goal

pub returns : goal.returns
returns c =
    record {
      found = some-first c.args.language c.args.text.now c.args.tokens.now c.find.result c.find.ensures.first;
      token = c.find.ensures.token;
      none = none-within c.args.language c.args.text.now c.args.tokens.now c.find.result c.find.ensures.first;
    }
