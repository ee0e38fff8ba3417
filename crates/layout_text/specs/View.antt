-- What a layout text in the program stands for.
use Rattle.std.specs.Prelude.{List, map, Vec, Option, option_map}
use Rattle.std.specs.declared.alloc.Global.{Global}
use Rattle.layout_text.specs.declared.tree.LineText.{LineText}
use Rattle.layout_text.specs.declared.tree.PutText.{PutText}
use Rattle.layout_text.specs.declared.tree.PutText.TheVariants as puts
use Rattle.layout_text.specs.declared.tree.GroupText.{GroupText}
use Rattle.layout_text.specs.declared.tree.TokenText.{TokenText}
use Rattle.layout_text.specs.declared.tree.LayoutText.{LayoutText}
use Rattle.layout_text.specs.Tree.{PutTree, placed, absent, LineTree, GroupTree, TokenTree, LayoutTree}

abbrev pub put_view : PutText → PutTree
put_view (puts.Placed shape origin) = placed shape origin.items
put_view (puts.Absent place) = absent place

abbrev pub line_view : LineText → LineTree
line_view l = record { name = l.name; put = put_view l.put }

abbrev pub line_views : Vec LineText Global → List LineTree
line_views ls = map line_view ls.items

abbrev pub group_view : GroupText → GroupTree
group_view g = record { shape = g.shape; origin = g.origin.items }

abbrev pub group_views : Vec GroupText Global → List GroupTree
group_views gs = map group_view gs.items

abbrev pub token_view : TokenText → TokenTree
token_view t = record { place = t.place; groups = group_views t.groups }

abbrev pub token_views : Option TokenText → Option TokenTree
token_views o = option_map token_view o

abbrev pub layout_view : LayoutText → LayoutTree
layout_view l = record { lines = line_views l.lines; token = token_views l.token }
