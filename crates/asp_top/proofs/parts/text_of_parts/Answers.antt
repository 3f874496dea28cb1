use Rattle.std.proofs.Common.{◌∙◌, ap}
use Rattle.asp_make.specs.Texts.{parts_text}
use Rattle.asp_top.proofs.parts.text_of_parts.Goals as goal

pub returns : goal.returns
returns c =
    let parts = c.in_ok-parts.ensures in
    record {
      cubes = c.in_ok-parts.parts.items;
      parts = record { same = parts.answers; stand = parts.stand; some = parts.some; few = parts.few };
      is = c.in_ok-text.ensures ∙ ap parts_text c.as_slice.ensures.value;
    }
