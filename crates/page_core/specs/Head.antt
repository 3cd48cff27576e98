-- What is written before the first part of a page in HTML, and after the last one.
use Rattle.std.specs.Prelude.{ℕ, List, ◌++◌, codes}

-- how a browser shows a page: by day, by night and on paper
unfoldable pub style_sheet : List ℕ
style_sheet =
    codes ":root{color-scheme:light dark;--ink:#1b1f24;--paper:#fff;--soft:#505a68;--line:#c6ccd6;\n"
    ++ codes "--mark:#ffe28a;--target:#e3edfd;--link:#0a55c4}\n"
    ++ codes "@media (prefers-color-scheme:dark){\n"
    ++ codes ":root{--ink:#e4e7ec;--paper:#14171c;--soft:#a9b3c1;--line:#434c5a;\n"
    ++ codes "--mark:#695312;--target:#1f2e47;--link:#8fbaf8}\n"
    ++ codes "}\n"
    ++ codes "body{max-width:72rem;margin:0 auto;padding:1rem clamp(.75rem,2.5vw,2rem) 4rem;\n"
    ++ codes "color:var(--ink);background:var(--paper);font:1rem/1.5 system-ui,sans-serif;\n"
    ++ codes "overflow-wrap:anywhere}\n"
    ++ codes "h1{font-size:1.5rem;line-height:1.25}\n"
    ++ codes "h2{margin:3rem 0 .5rem;font-size:1.15rem;line-height:1.3}\n"
    ++ codes "p{margin:.5rem 0}\n"
    ++ codes "a{color:var(--link)}\n"
    ++ codes ".goals{padding:0;list-style:none}\n"
    ++ codes ".goals,.node,.value,summary{font:.9rem/1.5 ui-monospace,monospace}\n"
    ++ codes ".goals>li,.node,.value{padding-left:4ch;text-indent:-4ch;white-space:pre-wrap}\n"
    ++ codes ".node{margin-top:.75rem}\n"
    ++ codes ".step{margin:0;padding-left:2.2rem;color:var(--soft);font-size:.9rem}\n"
    ++ codes "details{margin:.75rem 0;padding-left:clamp(.4rem,1.5vw,1rem);\n"
    ++ codes "border-left:2px solid var(--line)}\n"
    ++ codes "summary{font-weight:600;cursor:pointer}\n"
    ++ codes "mark{padding:.05em .1em;border-radius:.2em;color:inherit;background:var(--mark)}\n"
    ++ codes ":target{scroll-margin-top:1rem}\n"
    ++ codes ".node:target,section:target>h2{background:var(--target);outline:.2rem solid var(--target)}\n"
    ++ codes "@media print{\n"
    ++ codes ":root{color-scheme:light;--ink:#000;--paper:#fff;--soft:#000;--line:#888;\n"
    ++ codes "--mark:#ddd;--target:#fff;--link:#000;font-size:10pt}\n"
    ++ codes "body{max-width:none;padding:0}\n"
    ++ codes "h2,summary,.node{break-after:avoid}\n"
    ++ codes ".node,.step,summary{break-inside:avoid}\n"
    ++ codes "}\n"

unfoldable pub head : List ℕ
head =
    codes "<!DOCTYPE html>\n"
    ++ codes "<html lang=\"en\">\n"
    ++ codes "<head>\n"
    ++ codes "<meta charset=\"utf-8\">\n"
    ++ codes "<meta name=\"viewport\" content=\"width=device-width, initial-scale=1\">\n"
    ++ codes "<title>spike: proofs</title>\n"
    ++ codes "<style>\n"
    ++ style_sheet
    ++ codes "</style>\n"
    ++ codes "</head>\n"
    ++ codes "<body>\n"

abbrev pub tail : List ℕ
tail = codes "</body>\n</html>\n"
