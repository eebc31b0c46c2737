use Rattle.mmtel_sheets.specs.Printing.{uri_data}
use Rattle.mmtel_sheets.proofs.Items.{item_added, items_done}
use Rattle.mmtel_sheets.proofs.values.uris_value.Goals as goal

pub uris-preserved : goal.uris-preserved
uris-preserved c = item_added uri_data c.args.uris.now c.uris.uri-index c.uri-item.result c.uris.array.items c.push.new.self.items c.in_ok-uri_value.field-0 c.uris-test.true c.uri-item.is
    c.in_ok-push.ensures.items c.in_ok-uri_value.ensures c.uris.invariant

pub returns : goal.returns
returns c = items_done uri_data c.args.uris.now c.uris.uri-index c.uris.array c.uris-test.false c.uris.invariant
