-- What contracts see of an image.
use Rattle.rc_base.specs.Pictures.{Picture}
use Rattle.textures.specs.declared.texture.Image.{Image}

abbrev pub image_picture : Image → Picture
image_picture i = record { w = i.w; h = i.h; texels = i.texels }
